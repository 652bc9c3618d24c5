use Rattle.std.proofs.Common.{sym, ap, ◌∙◌}
use Rattle.std.proofs.lemmas.Result.{IfOk-weaker}
use Rattle.census_state.specs.Lines.{union_line}
use Rattle.census_state.specs.Stored.{saved}
use Rattle.census_state.proofs.Rejoining.{rejoin_same}
use Rattle.census_state.proofs.states.unchanged.Goals as goal

pub returns-clause-text : goal.returns-clause-text
returns-clause-text c = IfOk-weaker c.union_line.result _ _ (λ text line. line ∙ ap (union_line 0) c.len.ensures) c.union_line.ensures

pub returns-clause-rejoined : goal.returns-clause-rejoined
returns-clause-rejoined c =
    let held = c.args.held.now in
    IfOk-weaker c.union_line.result _ _ (λ text line state load. rejoin_same state held load ∙ ap (saved held) (sym (line ∙ ap (union_line 0) c.len.ensures))) c.union_line.ensures
