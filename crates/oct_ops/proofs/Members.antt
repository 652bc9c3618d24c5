-- Which operations a set and its lists have.
use Rattle.std.proofs.Common.{◌≡◌, ℕ, zero, suc, Bool, true, List, [], ◌∷◌, take, ◌⊎◌, inl, inr, refl, sym, ap, ◌∙◌, subst, arith}
use Rattle.std.specs.List.{IsAmong, list_any, filter, AllByRecursion}
use Rattle.std.specs.Ordering.{eq_by_cmp, is_eq}
use Rattle.std.proofs.lemmas.Bool.{or_cases, or_left, or_right, false≢true}
use Rattle.std.proofs.lemmas.Cmp.{tied_itself}
use Rattle.std.specs.Cmp.{Equal-is, both_ways}
pub use Rattle.oct_code.proofs.Members.{In, In-filter, In-filter_source, In-map}
use Rattle.oct_ops.specs.Operations.{Operations, empty, contains, insert, insert_all, set_of, keep, listed}
use Rattle.oct_ops.specs.Order.{op_cmp}
use Rattle.oct_ops.specs.OrderLaws.{op_cmp_total, op_cmp_exact}
use Rattle.oct_ops.specs.SetLaws as laws
use Rattle.oct_ops.specs.Body.{Operation}

-- the set has the operation
abbrev pub Has : Operations → Operation → Type 0
Has s o = contains s o ≡ true

pub In-among : {X : Type 0} (xs : List X) (x : X) → IsAmong xs x → In x xs
In-among [] x (i, (within, is)) = absurd (omega arith)
In-among (y ∷ ys) x (zero, (within, is)) = inl is
In-among (y ∷ ys) x (suc i, (within, is)) = inr (In-among ys x (i, (omega arith, is)))

pub among-In : {X : Type 0} (xs : List X) (x : X) → In x xs → IsAmong xs x
among-In [] x h = absurd h
among-In (y ∷ ys) x h = elim h [
  | inl e ↦ (0, (omega arith, e))
  | inr t ↦ let rest = among-In ys x t in (suc rest.0, (omega (arith, rest.1.0), rest.1.1))
]

pub In-take : {X : Type 0} (n : ℕ) (xs : List X) (x : X) → In x (take n xs) → In x xs
In-take zero xs x h = absurd h
In-take (suc n) [] x h = absurd h
In-take (suc n) (y ∷ ys) x h = elim h [ inl e ↦ inl e | inr t ↦ inr (In-take n ys x t) ]

pub all_in : {X : Type 0} (P : X → Type 0) (xs : List X) → ((x : X) → In x xs → P x) → AllByRecursion P xs
all_in P [] each = tt
all_in P (x ∷ xs) each = (each x (inl refl), all_in P xs (λ y h. each y (inr h)))

-- an element that passes a test
pub any_source : {X : Type 0} (p : X → Bool) (xs : List X) → list_any p xs ≡ true → (x : X) × In x xs × (p x ≡ true)
any_source p [] h = absurd (false≢true h)
any_source p (y ∷ xs) h = elim (or_cases (p y) (list_any p xs) h) [
  | inl here ↦ (y, inl refl, here)
  | inr later ↦ let s = any_source p xs later in (s.0, inr s.1, s.2)
]

pub any-In : {X : Type 0} (p : X → Bool) (xs : List X) (x : X) → In x xs → p x ≡ true → list_any p xs ≡ true
any-In p [] x h k = absurd h
any-In p (y ∷ xs) x h k = elim h [
  | inl e ↦ or_left (p y) (list_any p xs) (ap p (sym e) ∙ k)
  | inr t ↦ or_right (p y) (list_any p xs) (any-In p xs x t k)
]

-- ---- sets

tied : (o p : Operation) → eq_by_cmp op_cmp o p ≡ true → o ≡ p
tied o p e = op_cmp_exact o p ((Equal-is (op_cmp o p)).0 e)

itself : (o : Operation) → eq_by_cmp op_cmp o o ≡ true
itself o = ap is_eq (tied_itself op_cmp_total o)

any_tied : (xs : List Operation) (o : Operation) → list_any (eq_by_cmp op_cmp o) xs ≡ true → In o xs
any_tied xs o h = let s = any_source (eq_by_cmp op_cmp o) xs h in subst (λ p. In p xs) (sym (tied o s.0 s.2)) s.1

pub Has-listed : (s : Operations) (o : Operation) → In o (listed s) → Has s o
Has-listed s o h = laws.contains-listed s o ∙ any-In (eq_by_cmp op_cmp o) (listed s) o h (itself o)

pub In-listed : (s : Operations) (o : Operation) → Has s o → In o (listed s)
In-listed s o h = any_tied (listed s) o (sym (laws.contains-listed s o) ∙ h)

pub Has-empty : (o : Operation) → Has empty o → ⊥
Has-empty o h = false≢true (sym (laws.contains-empty op_cmp_total op_cmp_exact o) ∙ h)

pub Has-insert : (s : Operations) (x o : Operation) → Has (insert s x) o → (o ≡ x) ⊎ Has s o
Has-insert s x o h = elim (or_cases (eq_by_cmp op_cmp o x) (contains s o) (sym (laws.contains-insert op_cmp_total op_cmp_exact s x o) ∙ h)) [
  | inl e ↦ inl (tied o x e)
  | inr old ↦ inr old
]

pub insert-keeps : (s : Operations) (x o : Operation) → Has s o → Has (insert s x) o
insert-keeps s x o h = laws.contains-insert op_cmp_total op_cmp_exact s x o ∙ or_right (eq_by_cmp op_cmp o x) (contains s o) h

pub Has-insert_all : (s : Operations) (xs : List Operation) (o : Operation) → Has (insert_all s xs) o → Has s o ⊎ In o xs
Has-insert_all s [] o h = inl h
Has-insert_all s (x ∷ xs) o h = elim (Has-insert (insert_all s xs) x o h) [
  | inl e ↦ inr (inl e)
  | inr old ↦ elim (Has-insert_all s xs o old) [ inl was ↦ inl was | inr new ↦ inr (inr new) ]
]

pub insert_all-keeps : (s : Operations) (xs : List Operation) (o : Operation) → Has s o → Has (insert_all s xs) o
insert_all-keeps s [] o h = h
insert_all-keeps s (x ∷ xs) o h = insert-keeps (insert_all s xs) x o (insert_all-keeps s xs o h)

Has-set_of : (xs : List Operation) (o : Operation) → Has (set_of xs) o → In o xs
Has-set_of xs o h = any_tied xs o (sym (laws.contains-set_of op_cmp_total op_cmp_exact xs o) ∙ h)

set_of-has : (xs : List Operation) (o : Operation) → In o xs → Has (set_of xs) o
set_of-has xs o h = laws.contains-set_of op_cmp_total op_cmp_exact xs o ∙ any-In (eq_by_cmp op_cmp o) xs o h (itself o)

pub Has-keep : (p : Operation → Bool) (s : Operations) (o : Operation) → Has (keep p s) o → Has s o
Has-keep p s o h = Has-listed s o ((In-filter_source p o (listed s) (Has-set_of (filter p (listed s)) o h)).0)

pub keep-has : (p : Operation → Bool) (s : Operations) (o : Operation) → Has s o → p o ≡ true → Has (keep p s) o
keep-has p s o h k = set_of-has (filter p (listed s)) o (In-filter p o (listed s) (In-listed s o h) k)

-- sets with the same operations are one
pub same_set : (s t : Operations) → ((o : Operation) → Has s o → Has t o) → ((o : Operation) → Has t o → Has s o) → s ≡ t
same_set s t to from = laws.same_set op_cmp_total op_cmp_exact s t (λ o. both_ways (contains s o) (contains t o) (to o) (from o))
