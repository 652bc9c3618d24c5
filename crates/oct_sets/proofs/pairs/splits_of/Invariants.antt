use Rattle.std.proofs.Common.{◌<◌, ◌≤◌, ◌↔◌, ℕ, IsTrue, length, slice_index}
use Rattle.std.specs.List.{Contains}
use Rattle.oct_code.specs.Code.{allows, len}
use Rattle.oct_sets.proofs.pairs.splits_of.Given as goal

abbrev pub invariant-loop-removed : goal.invariant-loop-removed
invariant-loop-removed g l = record {
  few : (k : ℕ) → k < length l.splits.items → slice_index l.splits.items k ≤ len l.code;
  splits : (r : ℕ) → Contains l.splits.items r ↔ ((r < l.removed) × IsTrue (allows l.code r 2));
}
