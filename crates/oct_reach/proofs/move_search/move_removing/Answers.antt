use Rattle.std.proofs.Common.{arith, sym, ap, ◌∙◌}
use Rattle.std.specs.Option.{option_map}
use Rattle.oct_period.specs.Moving.{move_with}
use Rattle.oct_period.proofs.Leavings.{removing_found, removing_none}
use Rattle.oct_reach.proofs.move_search.move_removing.Goals as goal

pub returns-then-heap-beans : goal.returns-then-heap-beans
returns-then-heap-beans g c = sym (removing_none c.args.game.now.code c.args.index c.args.heap c.args.removed c.args.wanted (omega arith))

pub returns-in_err-left : goal.returns-in_err-left
returns-in_err-left g c =
    c.from_residual.ensures
    ∙ sym (removing_found c.args.game.now.code c.args.index c.args.heap c.args.removed c.args.wanted (omega arith) ∙ ap (option_map (move_with c.args.index c.args.removed)) (sym c.in_err-left.ensures))

pub returns : goal.returns
returns g c =
    sym (removing_found c.args.game.now.code c.args.index c.args.heap c.args.removed c.args.wanted (omega arith) ∙ ap (option_map (move_with c.args.index c.args.removed)) (sym c.in_ok-left.ensures))
