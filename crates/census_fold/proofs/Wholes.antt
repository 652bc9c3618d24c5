-- All operations of a state are beyond the clock that knows none.
use Rattle.std.proofs.Common.{arith, ◌≡◌, ℕ, ◌≤◌, Bool, true, not, cond, List, [], ◌∷◌, refl, ap, ◌∙◌}
use Rattle.std.specs.Prelude.{unwrap_or, nat_le}
use Rattle.std.specs.List.{All, AllByRecursion, filter}
use Rattle.std.specs.FinMap as finmap
use Rattle.std.specs.Ordering.{nat_cmp}
use Rattle.std.proofs.lemmas.List.Elements.{recursion_from_All}
use Rattle.oct_join.specs.Clock as clock
use Rattle.oct_ops.specs.Body.{Operation}
use Rattle.oct_ops.specs.Operations.{Operations, listed, set_of}
use Rattle.oct_ops.specs.OrderLaws.{op_cmp_total, op_cmp_exact}
use Rattle.oct_ops.specs.SetLaws.{set_of-listed}
use Rattle.oct_ops.specs.Valid.{IsOp}
use Rattle.oct_store.specs.Summary.{beyond, not_covered}

none_covered : (o : Operation) → IsOp o → not_covered clock.empty o ≡ true
none_covered o valid = ap (λ n. not (nat_le o.dot.number (unwrap_or n 0))) (finmap.get-empty nat_cmp o.dot.author) ∙ above o.dot.number valid.dot.number.0
  where
    above : (n : ℕ) → 1 ≤ n → not (nat_le n 0) ≡ true
    above n h = grind (arith, h)

filter-all : (p : Operation → Bool) (ops : List Operation) → AllByRecursion (λ o. p o ≡ true) ops → filter p ops ≡ ops
filter-all p [] h = refl
filter-all p (o ∷ ops) h = ap (λ b. cond b (o ∷ filter p ops) (filter p ops)) h.0 ∙ ap (λ l. o ∷ l) (filter-all p ops h.1)

pub all_beyond : (ops : Operations) → All IsOp (listed ops) → beyond ops clock.empty ≡ ops
all_beyond ops valid =
    ap set_of (filter-all (not_covered clock.empty) (listed ops) (recursion_from_All (λ o. not_covered clock.empty o ≡ true) (listed ops) (λ i o lt. none_covered _ (valid i o lt))))
    ∙ set_of-listed op_cmp_total op_cmp_exact ops
