use Rattle.std.proofs.Common.{ℕ, ◌↔◌, map}
use Rattle.bitsets.specs.Sets.{Has}
use Rattle.oct_sets.specs.Plans.{IsOneBefore}
use Rattle.oct_sets.proofs.pairs.split_set.Given as goal

abbrev pub invariant-loop-removed : goal.invariant-loop-removed
invariant-loop-removed g l = record {
  set : (v : ℕ) → Has (g.W.Word.number l.set) v ↔ IsOneBefore l.splits (map g.T.Cell.number l.values) l.place l.removed-index v;
}
