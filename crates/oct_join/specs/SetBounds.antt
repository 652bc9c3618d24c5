-- Inclusion is a partial order of sets, and union gives its least upper bounds.
use Rattle.std.specs.declared.cmp.Ordering.{Ordering}
use Rattle.std.specs.Cmp.{IsTotalOrder, both_ways}
use Rattle.std.specs.FinMap.{IsAntisymmetric}
use Rattle.oct_ops.specs.Sets.{Set, union, IsSubset}
use Rattle.oct_ops.specs.SetLaws.{same_set, union_left, union_right, union_least}
use Rattle.oct_join.specs.Order.{IsPartialOrder, IsLeastUpperBound}

module _ {K : Type 0} {R : K → K → Ordering} (total : IsTotalOrder R) (exact : IsAntisymmetric R) where
  pub subset_order : IsPartialOrder (IsSubset {R = R})
  subset_order = record {
    reflexive = λ s x h. h;
    transitive = λ s t u f g x h. g x (f x h);
    antisymmetric = λ s t f g. same_set total exact s t (λ x. both_ways _ _ (f x) (g x));
  }

  pub union_bound : (s t : Set R) → IsLeastUpperBound IsSubset s t (union s t)
  union_bound s t = record { left = union_left total exact s t; right = union_right total exact s t; least = union_least total exact s t }
