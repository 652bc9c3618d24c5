use Rattle.std.proofs.Common.{ℕ, ◌<◌, ◌≤◌, ◌≡◌, length, map, slice_index}
use Rattle.std.specs.List.{All}
use Rattle.oct_mex.specs.Marks.{IsOptionBy}
use Rattle.oct_mex.specs.Totals.{IsLong, IsTable}
use Rattle.oct_mex.proofs.totals.is_in_totals.Given as goal

abbrev pub invariant-loop-removed : goal.invariant-loop-removed
invariant-loop-removed g l = record {
  count : length l.tables ≡ length l.initial.tables;
  long : All (IsLong l.size) l.tables;
  kept : All (IsTable l.mask (map g.T.Cell.number l.values)) l.tables;
  none : (r : ℕ) (o : IsOptionBy l.code (slice_index (map g.T.Cell.number l.values)) (length l.values) r (g.N.Cell.number l.value)) → 1 ≤ o.a → r < l.removed → ⊥;
}
