use Rattle.std.proofs.Common.{◌≡◌, ℕ, sym, ap, ◌∙◌, rules, subst}
use Rattle.std.specs.List.{list_any}
use Rattle.std.specs.List.Sorted.{IsNonDecreasingBy}
use Rattle.std.proofs.lemmas.List.Sorted.{IsNonDecreasingBy-from_sort_by_key, list_any-IsPermutation}
use Rattle.oct_ops.specs.Operations.{listed}
use Rattle.oct_left.specs.Covered.{is_said, tells}
use Rattle.oct_left.specs.Spans.{has_heap}
use Rattle.oct_left.proofs.Covering.{all_below_first, said_at, unsaid_at}
use Rattle.oct_left.proofs.covered.are_covered.Goals as goal

pub first_missing-requires : goal.first_missing-requires
first_missing-requires g c = record {
  sorted = subst (IsNonDecreasingBy (λ s. s.start)) (sym c.deref.ensures.value) (IsNonDecreasingBy-from_sort_by_key (λ s. s.start) _ c.sort_unstable_by_key.ensures.sorted (λ a r q k. search rules));
}

pub returns : goal.returns
returns g c =
    let same : (heap : ℕ) → list_any (has_heap heap) c.deref.result.now ≡ list_any (tells heap) (listed c.args.ops.now) =
    λ heap. ap (list_any (has_heap heap)) c.deref.ensures.value ∙ sym (list_any-IsPermutation (has_heap heap) _ _ c.sort_unstable_by_key.ensures.permutation) ∙ c.in_ok-spans.ensures heap in
    all_below_first (is_said (listed c.args.ops.now)) c.args.count c.first_missing.result
    (λ k below. said_at (listed c.args.ops.now) k (λ some. sym (same k) ∙ c.first_missing.ensures.below k some below))
    (unsaid_at (listed c.args.ops.now) c.first_missing.result c.first_missing.ensures.some (sym (same c.first_missing.result) ∙ c.first_missing.ensures.missing))
