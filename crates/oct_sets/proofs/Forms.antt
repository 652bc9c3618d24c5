-- Sets in words of either width.
use Rattle.std.proofs.Common.{◌≡◌, ℕ, ◌≤◌}
use Rattle.oct_sets.specs.Sets.{heap_of, reach_of, IsShaped}
use Rattle.oct_sets.specs.declared.sets.Sets.{Sets}
use Rattle.oct_sets.specs.declared.sets.Sets.TheVariants.{Narrow, Wide}

-- no far heap of their plan is larger than the size that they are shaped for
pub reach_is : {A : Type 0} (most width : ℕ) (s : Sets A) → IsShaped most width s → reach_of s ≡ most
reach_is most width (Narrow s) shaped = shaped.reach
reach_is most width (Wide s) shaped = shaped.reach

-- as many heaps as they look back on stand before the next one
pub least_is : {A : Type 0} (most width : ℕ) (s : Sets A) → IsShaped most width s → width ≤ heap_of s
least_is most width (Narrow s) shaped = shaped.least
least_is most width (Wide s) shaped = shaped.least
