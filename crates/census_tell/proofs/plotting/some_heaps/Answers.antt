use Rattle.std.proofs.Common.{◌≡◌, Result, Ok, Err, sym, ap, ◌∙◌}
use Rattle.std.proofs.lemmas.Result.{IfErr-weaker, IfOk-weaker}
use Rattle.oct_pages.specs.GamesIn.{content_in}
use Rattle.oct_period.specs.GameContent.{GameContent}
use Rattle.oct_text.specs.Words.{Text}
use Rattle.census_state.specs.declared.fault.Fault.{Fault}
use Rattle.census_tell.specs.Viewing.{heaps_of, some_heaps}
use Rattle.census_tell.proofs.Asked.{heaps_said}
use Rattle.census_tell.proofs.plotting.some_heaps.Goals as goal

-- what is told of a game is told of one that is the same
same_game : (told : GameContent → Result Text Fault) (all answer : Result Text Fault) (game built : GameContent) → all ≡ told game → built ≡ game → told built ≡ answer → all ≡ answer
same_game told all answer game built said same is = said ∙ ap told (sym same) ∙ is

pub returns-clause-ok : goal.returns-clause-ok
returns-clause-ok c =
    let said = heaps_said c.args.state.now c.args.code.now c.args.from c.args.to c.in_ok-held.held c.in_ok-code.code c.in_ok-held.ensures.ok (sym c.read_code.ensures ∙ c.in_ok-code.was) in
    IfOk-weaker c.heaps_text.result _ _
    (λ text. same_game (heaps_of c.args.from c.args.to) (some_heaps c.args.from c.args.to c.args.state.now c.args.code.now) (Ok text.items) (content_in c.in_ok-held.held.ops c.in_ok-code.code) c.in_ok-game.game said c.in_ok-game.ensures)
    c.heaps_text.ensures.ok

pub returns-clause-err : goal.returns-clause-err
returns-clause-err c =
    let said = heaps_said c.args.state.now c.args.code.now c.args.from c.args.to c.in_ok-held.held c.in_ok-code.code c.in_ok-held.ensures.ok (sym c.read_code.ensures ∙ c.in_ok-code.was) in
    IfErr-weaker c.heaps_text.result _ _
    (λ e is other. same_game (heaps_of c.args.from c.args.to) (some_heaps c.args.from c.args.to c.args.state.now c.args.code.now) (Err e) (content_in c.in_ok-held.held.ops c.in_ok-code.code) c.in_ok-game.game said c.in_ok-game.ensures (is other))
    c.heaps_text.ensures.err
