-- What a table of marks has on the way to the mex.
use Rattle.std.specs.Prelude.{ℕ, ◌<◌, ◌≤◌, Bool, List, length}
use Rattle.oct_code.specs.Code.{Code}
use Rattle.oct_mex.specs.NimValues.{IsOptionValue}
use Rattle.oct_mex.specs.Marks.{IsMarked, IsOptionBy, IsPairBy, IsRareBy}

-- only values of options are marked, and those of the options of at most one heap, of a listed heap, or whose smaller heap is below the end
pub record HasMarked (c : Code) (g : ℕ → ℕ) (n : ℕ) (heaps : List ℕ) (end : ℕ) (marks : List Bool) : Type 0 where
  pub sound : (v : ℕ) → v < length marks → IsMarked marks v → IsOptionValue c g n v
  pub listed : (v r : ℕ) → v < length marks → IsRareBy c g n heaps r v → IsMarked marks v
  pub pairs : (v r : ℕ) → v < length marks → IsPairBy c g n 1 end r v → IsMarked marks v

-- some move in a heap of n leaves two heaps whose values under g have this exclusive or, the smaller one from a place on
pub record IsLatePair (c : Code) (g : ℕ → ℕ) (n from value : ℕ) : Type 0 where
  pub removed : ℕ
  pub option : IsOptionBy c g n removed value
  pub late : from ≤ option.a
