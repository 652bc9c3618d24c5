use Rattle.std.proofs.Common.{Ok, ap, sym, ◌∙◌}
use Rattle.census_tell.specs.Questions.{told, told_of}
use Rattle.census_tell.proofs.Asked.{game_said, told_is}
use Rattle.census_tell.proofs.asking.answer.Goals as goal

pub returns-clause-ok : goal.returns-clause-ok
returns-clause-ok c =
    game_said c.args.state.now c.args.code.now (λ r d. told c.args.question r.ops d) c.in_ok-held.held c.in_ok-code.code c.in_ok-text.text.items c.in_ok-held.ensures.ok (sym c.read_code.ensures ∙ c.in_ok-code.was)
    (c.in_ok-text.ensures ∙ ap (told_of c.args.question) c.in_ok-game.ensures ∙ told_is c.args.question c.in_ok-held.held.ops c.in_ok-code.code)
    ∙ ap Ok (sym c.text_alone.ensures)
