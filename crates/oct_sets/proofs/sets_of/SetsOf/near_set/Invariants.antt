use Rattle.std.proofs.Common.{ℕ, ◌^◌, ◌<◌, ◌⊎◌, ◌↔◌, List, map}
use Rattle.bitsets.specs.Sets.{Has}
use Rattle.oct_code.specs.Code as octal
use Rattle.oct_sets.specs.Plans.{AreLast, IsFarMade, IsLowMade, IsMade}
use Rattle.oct_sets.specs.Sets.{IsRightOf}
use Rattle.oct_sets.proofs.sets_of.SetsOf.near_set.Given as goal

abbrev pub invariant-loop-at : goal.invariant-loop-at
invariant-loop-at g l = record {
  union : (c : octal.Code) (heaps : List ℕ) (reach : ℕ) → IsRightOf g.W.Word.number g.W.Word.digits c heaps reach l.self → AreLast c l.self.heap (map g.T.Cell.number l.last)
      → (v : ℕ) → v < 2 ^ g.W.Word.digits → Has (g.W.Word.number l.set) v ↔ ((IsFarMade c l.self.heap l.self.plan v ⊎ IsLowMade c l.self.heap l.self.plan v) ⊎ IsMade c l.self.heap l.self.plan.near l.at v);
}
