use Rattle.std.proofs.lemmas.Result.{IfOk-weaker}
use Rattle.census_state.proofs.Rejoining.{rejoin_grows}
use Rattle.census_state.proofs.states.rejoined_text.Goals as goal

pub returns : goal.returns
returns c =
    let held = c.args.held.now in
    IfOk-weaker c.union_line.result _ _ (λ text line kept was. rejoin_grows held kept text.items c.args.before c.len-all.result was c.len-all.ensures line) c.union_line.ensures
