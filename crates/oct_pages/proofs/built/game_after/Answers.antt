use Rattle.std.proofs.Common.{sym, ap, ◌∙◌}
use Rattle.std.specs.Option.{option_copied}
use Rattle.oct_pages.proofs.Building.{found_content, found_each, none_content}
use Rattle.oct_pages.proofs.built.game_after.Goals as goal

pub returns-in_default : goal.returns-in_default
returns-in_default g c = c.new-game.ensures ∙ none_content c.args.said.now.ops c.args.code (option_copied c.game.result) c.game.ensures (ap option_copied (sym c.in_default.is))

pub build-requires-clause-all : goal.build-requires-clause-all
build-requires-clause-all g c = found_each c.args.said.now.ops c.args.code (option_copied c.game.result) c.in-Some.ops.now c.game.ensures (ap option_copied (sym c.in-Some.is))

pub returns : goal.returns
returns g c =
    c.in_ok-game.ensures ∙ found_content c.args.said.now.ops c.args.code (option_copied c.game.result) c.in-Some.ops.now c.game.ensures (ap option_copied (sym c.in-Some.is))
