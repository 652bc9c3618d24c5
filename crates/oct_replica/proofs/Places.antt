-- Replicas and packets at their places.
use Rattle.std.proofs.Common.{◌≡◌, ℕ, zero, suc, ◌-◌, List, [], ◌∷◌, ◌++◌, replicate, slice_get, slice_set, Some, None, ◌⊎◌, inl, inr, refl, sym, ap, ◌∙◌, subst, arith}
use Rattle.std.proofs.lemmas.Bool.{cases_eq}
use Rattle.oct_ops.specs.Body.{Operation}
use Rattle.oct_ops.specs.Operations.{empty}
use Rattle.oct_replica.specs.World.{World, Local, start, replica, with_replica, on_replica, on_packet, IsReplica}

get-set_same : {X : Type 0} (xs : List X) (i : ℕ) (x y : X) → slice_get xs i ≡ Some x → slice_get (slice_set xs i y) i ≡ Some y
get-set_same [] i x y h = cc
get-set_same (z ∷ xs) zero x y h = refl
get-set_same (z ∷ xs) (suc i) x y h = get-set_same xs i x y h

get-set_other : {X : Type 0} (xs : List X) (i j : ℕ) (y : X) → (i ≡ j → ⊥) → slice_get (slice_set xs i y) j ≡ slice_get xs j
get-set_other [] i j y ne = refl
get-set_other (z ∷ xs) zero zero y ne = absurd (ne refl)
get-set_other (z ∷ xs) zero (suc j) y ne = refl
get-set_other (z ∷ xs) (suc i) zero y ne = refl
get-set_other (z ∷ xs) (suc i) (suc j) y ne = get-set_other xs i j y (λ e. ne (ap suc e))

get-replicate : {X : Type 0} (n i : ℕ) (x y : X) → slice_get (replicate n x) i ≡ Some y → y ≡ x
get-replicate zero i x y h = cc
get-replicate (suc n) zero x y h = cc
get-replicate (suc n) (suc i) x y h = get-replicate n i x y h

-- of a list with one more at its end
pub get-push : {X : Type 0} (xs : List X) (x : X) (i : ℕ) (y : X) → slice_get (xs ++ x ∷ []) i ≡ Some y → (slice_get xs i ≡ Some y) ⊎ (y ≡ x)
get-push [] x zero y h = inr cc
get-push [] x (suc i) y h = cc
get-push (z ∷ xs) x zero y h = inl h
get-push (z ∷ xs) x (suc i) y h = get-push xs x i y h

-- ---- replicas

pub at_start : (n r : ℕ) (l : Local) → IsReplica (start n) r l → l ≡ record { held = empty; saved = empty }
at_start n zero l h = cc
at_start n (suc i) l h = get-replicate n i (record { held = empty; saved = empty }) l h

pub replica_here : (w : World) (r : ℕ) (l m : Local) → IsReplica w r l → IsReplica (with_replica w r m) r m
replica_here w zero l m h = cc
replica_here w (suc i) l m h =
    let place : suc i - 1 ≡ i = omega arith in
    subst (λ k. slice_get (slice_set w.replicas k m) i ≡ Some m) (sym place) (get-set_same w.replicas i l m h)

pub replica_there : (w : World) (r s : ℕ) (l m : Local) → IsReplica w r l → (r ≡ s → ⊥) → replica (with_replica w r m) s ≡ replica w s
replica_there w zero s l m h ne = cc
replica_there w (suc i) zero l m h ne = refl
replica_there w (suc i) (suc j) l m h ne = get-set_other w.replicas (suc i - 1) j m (λ e. ne (omega arith))

pub one_replica : (w : World) (r : ℕ) (k l : Local) → IsReplica w r k → IsReplica w r l → k ≡ l
one_replica w r k l a b = cc

-- a replica after one has changed
pub replica_cases : (w : World) (r s : ℕ) (l m k : Local) → IsReplica w r l → IsReplica (with_replica w r m) s k → ((s ≡ r) × (k ≡ m)) ⊎ ((r ≡ s → ⊥) × IsReplica w s k)
replica_cases w r s l m k h is = elim (cases_eq s r) [
  | inl e ↦ inl (e, one_replica (with_replica w r m) r k m (subst (λ q. IsReplica (with_replica w r m) q k) e is) (replica_here w r l m h))
  | inr ne ↦ let other : r ≡ s → ⊥ = λ e. ne (sym e) in inr (other, sym (replica_there w r s l m h other) ∙ is)
]

-- what holds where the replica, or the packet, is there and where it is not
pub on_replica_keeps : (P : World → Type 0) (w : World) (r : ℕ) (act : Local → World) → P w → ((l : Local) → IsReplica w r l → P (act l)) → P (on_replica w r act)
on_replica_keeps P w r act none some = elim (replica w r) as (λ x. replica w r ≡ x → P (elim x [ None ↦ w | Some l ↦ act l ])) [
  | None ↦ λ e. none
  | Some l ↦ λ e. some l e
] refl

pub on_packet_keeps : (P : World → Type 0) (w : World) (i : ℕ) (act : List Operation → World) → P w → ((ops : List Operation) → slice_get w.packets i ≡ Some ops → P (act ops)) → P (on_packet w i act)
on_packet_keeps P w i act none some = elim (slice_get w.packets i) as (λ x. slice_get w.packets i ≡ x → P (elim x [ None ↦ w | Some ops ↦ act ops ])) [
  | None ↦ λ e. none
  | Some ops ↦ λ e. some ops e
] refl
