-- The dots that are read make a removal.
use Rattle.std.proofs.Common.{◌≡◌, ℕ, suc, zero, List, [], ◌∷◌, length, Option, Some, None, Ok, refl, ap, subst}
use Rattle.std.specs.Int.{w16}
use Rattle.std.specs.Prelude.{IsTrue}
use Rattle.std.specs.declared.cmp.Ordering.{Ordering}
use Rattle.oct_ops.specs.DotOrder.{dot_cmp}
use Rattle.oct_ops.specs.Faults.{removal_fault}
use Rattle.oct_ops.specs.Operation.{Dot, removing}
use Rattle.oct_ops.specs.OrderLaws.{dot_cmp_total}
use Rattle.oct_delta.specs.Reading.{Read, checked, follows, is_count, number_at, dot_at, next_at, dots_at, dot_count_at, chain_at}
use Rattle.oct_delta.proofs.Codecs.{Chained, bind_ok, checked_ok, ok_is, as_part}
use Rattle.oct_delta.proofs.Chains.{IsNext, rises_from_chain}
use Rattle.oct_delta.proofs.Ranges.{faultless_from_dots}

abbrev Any : {A : Type 0} → A → Type 0
Any x = Unit {0}

-- what is read item by item, each in sight of the one before, is a chain of as many items
chain_read : {A : Type 0} (cmp : A → A → Ordering) (item : List ℕ → Read A) (before : Option A) (n : ℕ) (bytes : List ℕ) (x : List A × List ℕ) → chain_at (next_at cmp item) before n bytes ≡ Ok x → (length x.0 ≡ n) × Chained (IsNext cmp Any) before x.0
unfolding chain_at next_at
chain_read {A} cmp item before zero bytes x e = subst (λ (y : List A × List ℕ). (length y.0 ≡ 0) × Chained (IsNext cmp Any) before y.0) (ok_is ([], bytes) x e) (refl, tt)
chain_read {A} cmp item before (suc n) bytes x e =
    let a = bind_ok (next_at cmp item before bytes) (λ first. as_part (λ others. first.0 ∷ others) (chain_at (next_at cmp item) (Some first.0) n first.1)) x e in
    let b = bind_ok (chain_at (next_at cmp item) (Some a.0.0) n a.0.1) (λ others. let y : List A × List ℕ = (a.0.0 ∷ others.0, others.1) in Ok y) x a.2 in
    let c = bind_ok (item bytes) (λ x. checked (follows cmp before x.0) x.0 x.1) a.0 a.1 in
    let one = checked_ok (follows cmp before c.0.0) c.0.0 c.0.1 a.0 c.2 in
    let up : IsTrue (follows cmp before a.0.0) = subst (λ (z : A × List ℕ). IsTrue (follows cmp before z.0)) one.1 one.0 in
    let rest = chain_read cmp item (Some a.0.0) n a.0.1 b.0 b.1 in
    let made : List A × List ℕ = (a.0.0 ∷ b.0.0, b.0.1) in
    subst (λ (y : List A × List ℕ). (length y.0 ≡ suc n) × Chained (IsNext cmp Any) before y.0) (ok_is made x b.2) (ap suc rest.0, ((tt, up), rest.1))

pub removal_read : (bytes rest after : List ℕ) (n : ℕ) (ds : List Dot) → dot_count_at bytes ≡ Ok (n, rest) → dots_at n rest ≡ Ok (ds, after) → removal_fault (removing ds) ≡ None
unfolding dot_count_at
removal_read bytes rest after n ds count read =
    let a = bind_ok (number_at w16 bytes) (λ count. checked (is_count count.0) count.0 count.1) (n, rest) count in
    let b = checked_ok (is_count a.0.0) a.0.0 a.0.1 (n, rest) a.2 in
    let counted : IsTrue (is_count n) = subst (λ (z : ℕ × List ℕ). IsTrue (is_count z.0)) b.1 b.0 in
    let chain = chain_read dot_cmp dot_at None n rest (ds, after) read in
    faultless_from_dots (removing ds) (rw (chain.0) counted) (rises_from_chain dot_cmp Any dot_cmp_total None ds chain.1)
