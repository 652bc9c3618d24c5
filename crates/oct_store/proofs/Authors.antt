-- What `last` and the clock of a set say of its operations.
use Rattle.std.proofs.Common.{◌≡◌, ℕ, zero, suc, ◌≤◌, true, not, ◌&&◌, eqb, List, inl, inr, refl, sym, subst, arith}
use Rattle.std.specs.Option.{unwrap_or}
use Rattle.std.proofs.lemmas.Bool.{cases_Bool, and_from, and_parts, eqb-true, eq-eqb, leb-true, not_from_false}
use Rattle.oct_ops.specs.Operation.{Dot}
use Rattle.oct_ops.specs.Operations.{Operations, empty}
use Rattle.oct_ops.specs.Body.{Operation}
use Rattle.oct_join.specs.Clock.{Clock, covers}
use Rattle.oct_join.specs.Clock as clock
use Rattle.oct_store.specs.Summary.{last, has_dot, through, clock_of, beyond, positive}
use Rattle.oct_store.proofs.Greatest.{is_last, clock_of-is}
use Rattle.oct_store.proofs.Throughs.{is_through}
use Rattle.oct_ops.proofs.Members.{Has, In, Has-empty, any-In, any_source, keep-has}

-- an operation's dot is there
has_its_dot : (ops : List Operation) (o : Operation) → In o ops → has_dot ops o.dot.author o.dot.number ≡ true
has_its_dot ops o h =
    any-In (λ (p : Operation). eqb p.dot.author o.dot.author && eqb p.dot.number o.dot.number) ops o h
    (and_from _ _ (eq-eqb o.dot.author o.dot.author refl) (eq-eqb o.dot.number o.dot.number refl))

-- no operation of the author has a greater number
pub last-greatest : (ops : List Operation) (o : Operation) → In o ops → o.dot.number ≤ last ops o.dot.author
last-greatest ops o h = (is_last ops o.dot.author).above o.dot.number (has_its_dot ops o h)

-- ---- clocks

-- the operation of a dot
pub has_dot_source : (ops : List Operation) (d : Dot) → has_dot ops d.author d.number ≡ true → (o : Operation) × In o ops × (o.dot ≡ d)
has_dot_source ops d h =
    let s = any_source (λ (o : Operation). eqb o.dot.author d.author && eqb o.dot.number d.number) ops h in
    let parts = and_parts (eqb s.0.dot.author d.author) (eqb s.0.dot.number d.number) s.2 in
    let author : s.0.dot.author ≡ d.author = eqb-true s.0.dot.author d.author parts.0 in
    let number : s.0.dot.number ≡ d.number = eqb-true s.0.dot.number d.number parts.1 in
    (s.0, s.1, λ i. record { author = author i; number = number i })

clock_of-through : (ops : List Operation) (a : ℕ) → clock.through (clock_of ops) a ≤ through ops a
clock_of-through ops a = subst (λ v. unwrap_or v 0 ≤ through ops a) (sym (clock_of-is ops a)) (low (through ops a))
  where
    low : (n : ℕ) → unwrap_or (positive n) 0 ≤ n
    low zero = omega arith
    low (suc n) = omega arith

-- what the clock of operations covers is among them
pub clock-has : (ops : List Operation) (d : Dot) → 1 ≤ d.number → covers (clock_of ops) d ≡ true → (o : Operation) × In o ops × (o.dot ≡ d)
clock-has ops d some h =
    let low : d.number ≤ clock.through (clock_of ops) d.author = leb-true d.number (clock.through (clock_of ops) d.author) h in
    let high = clock_of-through ops d.author in
    has_dot_source ops d ((is_through ops d.author).all d.number some (omega arith))

-- where nothing is beyond a clock, it covers all
pub covered : (s : Operations) (t : Clock) → beyond s t ≡ empty → (o : Operation) → Has s o → covers t o.dot ≡ true
covered s t none o h = elim (cases_Bool (covers t o.dot)) [
  | inl is ↦ is
  | inr not_so ↦ absurd (Has-empty o (subst (λ u. Has u o) none (keep-has (λ (p : Operation). not (covers t p.dot)) s o h (not_from_false (covers t o.dot) not_so))))
]
