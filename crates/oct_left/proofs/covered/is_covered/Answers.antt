use Rattle.std.proofs.Common.{sym, ap}
use Rattle.std.specs.Option.{option_copied}
use Rattle.oct_left.proofs.Covering.{none_said}
use Rattle.oct_left.proofs.covered.is_covered.Goals as goal

pub returns-in-None : goal.returns-in-None
returns-in-None g c = none_said c.args.said.now.ops c.args.code (option_copied c.game.result) c.args.count c.game.ensures (ap option_copied (sym c.in-None.is))
