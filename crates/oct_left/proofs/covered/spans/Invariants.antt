use Rattle.std.proofs.Common.{◌≡◌, ℕ, ◌||◌}
use Rattle.std.specs.List.{list_any}
use Rattle.oct_ops.specs.Operations.{listed}
use Rattle.oct_left.specs.Covered.{tells}
use Rattle.oct_left.specs.Spans.{has_heap}
use Rattle.oct_left.proofs.covered.spans.Given as goal

abbrev pub invariant-loop-op : goal.invariant-loop-op
invariant-loop-op g l = (heap : ℕ) → (list_any (has_heap heap) l.spans.items || list_any (tells heap) l.op-iterator) ≡ list_any (tells heap) (listed l.ops)
