use Rattle.std.proofs.Common.{arith, sym, ◌∙◌}
use Rattle.oct_period.proofs.Leavings.{no_split_found, split_found}
use Rattle.oct_reach.proofs.move_search.split_of.Goals as goal

pub returns-then-has_value : goal.returns-then-has_value
returns-then-has_value g c =
    sym (split_found c.args.game.now.code c.args.wanted c.args.rest c.loop-a.a (omega arith) (omega arith) (sym c.has_value.ensures ∙ c.if-has_value.true) c.loop-a.invariant)

pub returns : goal.returns
returns g c =
    sym (no_split_found c.args.game.now.code c.args.wanted c.args.rest c.splits_end-a-end.result c.splits_end-a-end.ensures.near
    (λ k some low. c.loop-a.invariant k some (omega arith)))
