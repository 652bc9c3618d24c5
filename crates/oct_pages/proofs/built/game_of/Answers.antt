use Rattle.std.proofs.Common.{sym, ap, ◌∙◌}
use Rattle.std.proofs.lemmas.Result.{IfOk-weaker}
use Rattle.std.specs.Option.{option_copied}
use Rattle.oct_pages.proofs.Building.{found_content, found_each, none_content}
use Rattle.oct_pages.proofs.built.game_of.Goals as goal

pub build-requires-clause-all : goal.build-requires-clause-all
build-requires-clause-all g c = found_each c.args.said.now.ops c.args.code (option_copied c.game.result) c.in-Some.ops.now c.game.ensures (ap option_copied (sym c.in-Some.is))

pub returns-in-Some : goal.returns-in-Some
returns-in-Some g c =
    IfOk-weaker c.build.result _ _ (λ game is. is ∙ found_content c.args.said.now.ops c.args.code (option_copied c.game.result) c.in-Some.ops.now c.game.ensures (ap option_copied (sym c.in-Some.is)))
    c.build.ensures

pub returns-in-None : goal.returns-in-None
returns-in-None g c = c.new-game.ensures ∙ none_content c.args.said.now.ops c.args.code (option_copied c.game.result) c.game.ensures (ap option_copied (sym c.in-None.is))
