-- A clock that is raised by each operation that is next of its author.
use Rattle.std.proofs.Common.{arith, ◌≡◌, ℕ, zero, suc, ◌+◌, ◌-◌, ◌<◌, ◌≤◌, ◌==◌, max, Bool, true, false, ◌&&◌, ◌||◌, cond, List, [], ◌∷◌, ◌++◌, Some, None, refl, sym, ap, ◌∙◌, subst, append_assoc, eq-eqb}
use Rattle.std.specs.Prelude.{unwrap_or}
use Rattle.std.proofs.lemmas.Bool.{ne_eqb, eqb-true, eqb-false, and_from, and_parts, or_from, or_left, or_right, false_from_ne_true}
use Rattle.std.proofs.lemmas.List.{append-nil}
use Rattle.std.specs.List.{fold, filter, list_all, list_any}
use Rattle.std.specs.Ordering.{nat_cmp, is_lt, eq_by_cmp, ordering_then}
use Rattle.std.specs.declared.cmp.Ordering.{Ordering}
use Rattle.std.specs.Cmp.{unsigned_tied, nat_cmp_is, first_so, second_so}
use Rattle.std.specs.declared.cmp.Ordering.TheVariants.{Less, Equal, Greater}
use Rattle.std.specs.FinMap as finmap
use Rattle.std.proofs.Math.Bool.{or_assoc, or-false}
use Rattle.oct_ops.specs.Body.{Operation}
use Rattle.oct_ops.specs.Order.{op_cmp}
use Rattle.oct_ops.specs.Sets.{rises}
use Rattle.oct_join.specs.Clock.{Clock, empty, through as known, raised}
use Rattle.oct_join.proofs.Merging.{get-raised}
use Rattle.oct_store.specs.Laws.{IsThrough}
use Rattle.oct_store.specs.Summary.{has_dot, first_missing, numbers_of, last, through, positive, IsClockOf}

abbrev pub step : Clock → Operation → Clock
step t o = cond (known t o.dot.author + 1 == o.dot.number) (raised t o.dot.author o.dot.number) t

abbrev pub run : Clock → List Operation → Clock
run t [] = t
run t (o ∷ ops) = run (step t o) ops

pub clash : {b : Bool} → b ≡ true → b ≡ false → ⊥
clash {b} h k = let e : true ≡ false = sym h ∙ k in cc

unique : (ops : List Operation) (author j k : ℕ) → IsThrough ops author j → IsThrough ops author k → j ≡ k
unique ops author j k at to =
    let low : j < k → ⊥ = λ lt. clash (to.all (j + 1) (omega arith) (omega (arith, lt))) at.gap in
    let high : k < j → ⊥ = λ lt. clash (at.all (k + 1) (omega arith) (omega (arith, lt))) to.gap in
    grind (arith, low, high)

missing : (ops : List Operation) (author fuel n : ℕ) → 1 ≤ n → ((i : ℕ) → 1 ≤ i → i < n → has_dot ops author i ≡ true) → has_dot ops author (n + fuel) ≡ false → IsThrough ops author (first_missing ops author fuel n - 1)
missing ops author zero n positive before after =
    let same : n - 1 + 1 ≡ n + 0 = omega (arith, positive) in
    record { all = λ i low high. before i low (omega (arith, positive, high)); gap = ap (has_dot ops author) same ∙ after }
missing ops author (suc fuel) n positive before after = elim (has_dot ops author n) as (λ b. has_dot ops author n ≡ b → IsThrough ops author (elim b [ true ↦ first_missing ops author fuel (n + 1) | false ↦ n ] - 1)) [
  | true ↦ λ here.
      let same : n + 1 + fuel ≡ n + suc fuel = omega arith in
      missing ops author fuel (n + 1) (omega arith) (λ i low high. earlier i low high here) (ap (has_dot ops author) same ∙ after)
  | false ↦ λ here.
      let same : n - 1 + 1 ≡ n = omega (arith, positive) in
      record { all = λ i low high. before i low (omega (arith, positive, high)); gap = ap (has_dot ops author) same ∙ here }
] refl
  where
    earlier : (i : ℕ) → 1 ≤ i → i < n + 1 → has_dot ops author n ≡ true → has_dot ops author i ≡ true
    earlier i low high here = elim (i == n) as (λ b. (i == n) ≡ b → has_dot ops author i ≡ true) [
      | true ↦ λ e. ap (has_dot ops author) (eqb-true i n e) ∙ here
      | false ↦ λ e. let other = eqb-false i n e in before i low (grind (arith, other, high))
    ] refl

grows : (numbers : List ℕ) (start : ℕ) → start ≤ fold max start numbers
grows [] start = omega arith
grows (n ∷ numbers) start = omega (arith, grows numbers (max start n))

or_pair : (a b : Bool) (P : Type 0) → (a ≡ true → P) → (b ≡ true → P) → (a || b) ≡ true → P
or_pair true b P f g h = f refl
or_pair false b P f g h = g h

pub at_most_last : (ops : List Operation) (author n start : ℕ) → has_dot ops author n ≡ true → n ≤ fold max start (numbers_of ops author)
at_most_last [] author n start h = cc
at_most_last (o ∷ ops) author n start h = elim (o.dot.author == author) as (λ b. (o.dot.author == author) ≡ b → n ≤ fold max start (Rattle.std.specs.Prelude.map (λ p. p.dot.number) (cond b (o ∷ filter (λ p. p.dot.author == author) ops) (filter (λ p. p.dot.author == author) ops)))) [
  | true ↦ λ e. or_pair _ _ _ (λ here. omega (arith, eqb-true o.dot.number n (and_parts (o.dot.author == author) (o.dot.number == n) here).1, grows (numbers_of ops author) (max start o.dot.number))) (at_most_last ops author n (max start o.dot.number)) h
  | false ↦ λ e. or_pair _ _ _ (λ here. absurd (clash (and_parts (o.dot.author == author) (o.dot.number == n) here).0 e)) (at_most_last ops author n start) h
] refl

pub is_through : (ops : List Operation) (author : ℕ) → IsThrough ops author (through ops author)
is_through ops author =
    missing ops author (last ops author) 1 (omega arith) (λ i low high. absurd (omega (arith, low, high)))
    (false_from_ne_true _ (λ h. let most = at_most_last ops author (1 + last ops author) 0 h in absurd (omega (arith, most))))

-- ---- one more operation

any_push : (p : Operation → Bool) (done : List Operation) (o : Operation) → list_any p (done ++ o ∷ []) ≡ (list_any p done || p o)
any_push p [] o = or-false (p o)
any_push p (d ∷ done) o = ap (λ b. p d || b) (any_push p done o) ∙ sym (or_assoc (p d) (list_any p done) (p o))

module _ (done : List Operation) (o : Operation) where
  abbrev more : List Operation
  more = done ++ o ∷ []

  pushed : (a i : ℕ) → has_dot more a i ≡ (has_dot done a i || ((o.dot.author == a) && (o.dot.number == i)))
  pushed a i = any_push (λ p. (p.dot.author == a) && (p.dot.number == i)) done o

  kept : (a i : ℕ) → has_dot done a i ≡ true → has_dot more a i ≡ true
  kept a i h = pushed a i ∙ or_left _ _ h

  added : (a i : ℕ) → o.dot.author ≡ a → o.dot.number ≡ i → has_dot more a i ≡ true
  added a i author number = pushed a i ∙ or_right (has_dot done a i) _ (and_from _ _ (eq-eqb o.dot.author a author) (eq-eqb o.dot.number i number))

  still_none : (a i : ℕ) → has_dot done a i ≡ false → (o.dot.author ≡ a → o.dot.number ≡ i → ⊥) → has_dot more a i ≡ false
  still_none a i h other =
      pushed a i ∙ or_from _ _ h (false_from_ne_true _ (λ e. let pair = and_parts (o.dot.author == a) (o.dot.number == i) e in other (eqb-true _ _ pair.0) (eqb-true _ _ pair.1)))

  pub known_here : (t : Clock) (a n : ℕ) → 0 < n → known (raised t a n) a ≡ max n (known t a)
  known_here t a n positive = ap (λ x. unwrap_or x 0) (get-raised t a n positive a ∙ ap (λ b. cond b (Some (max n (known t a))) (finmap.get t a)) (unsigned_tied a a ∙ eq-eqb a a refl))

  pub known_there : (t : Clock) (a n q : ℕ) → 0 < n → (q ≡ a → ⊥) → known (raised t a n) q ≡ known t q
  known_there t a n q positive other = ap (λ x. unwrap_or x 0) (get-raised t a n positive q ∙ ap (λ b. cond b (Some (max n (known t a))) (finmap.get t q)) (unsigned_tied q a ∙ ne_eqb q a other))

  module _ (t : Clock) (before : (a : ℕ) → IsThrough done a (known t a)) (top : (n : ℕ) → has_dot done o.dot.author n ≡ true → n ≤ o.dot.number) where
    unchanged : (a : ℕ) → (o.dot.author ≡ a → o.dot.number ≡ known t a + 1 → ⊥) → IsThrough more a (known t a)
    unchanged a other = record { all = λ i low high. kept a i ((before a).all i low high); gap = still_none a (known t a + 1) (before a).gap other }

    next_is : (n : ℕ) → known t o.dot.author + 1 ≡ n → n ≡ o.dot.number → IsThrough more o.dot.author n
    next_is n next same = record {
      all = λ i low high. elim (i == n) as (λ b. (i == n) ≡ b → has_dot more o.dot.author i ≡ true) [
        | true ↦ λ e. added o.dot.author i refl (omega (arith, eqb-true i n e, same))
        | false ↦ λ e. let other = eqb-false i n e in kept o.dot.author i ((before o.dot.author).all i low (grind (arith, other, high, next)))
      ] refl;
      gap = still_none o.dot.author (n + 1) (false_from_ne_true _ (λ h. let most = top (n + 1) h in absurd (omega (arith, most, same)))) (λ author number. absurd (omega (arith, number, same)));
    }

    stepped : (b : Bool) → (known t o.dot.author + 1 == o.dot.number) ≡ b → (a : ℕ) → IsThrough more a (known (cond b (raised t o.dot.author o.dot.number) t) a)
    stepped true e a =
        let next = eqb-true (known t o.dot.author + 1) o.dot.number e in
        elim (a == o.dot.author) as (λ b. (a == o.dot.author) ≡ b → IsThrough more a (known (raised t o.dot.author o.dot.number) a)) [
          | true ↦ λ here.
              let same : o.dot.author ≡ a = sym (eqb-true a o.dot.author here) in
              subst (λ q. IsThrough more q (known (raised t o.dot.author o.dot.number) q)) same
              (subst (IsThrough more o.dot.author) (sym (known_here t o.dot.author o.dot.number (omega (arith, next)))) (next_is (max o.dot.number (known t o.dot.author)) (omega (arith, next)) (omega (arith, next))))
          | false ↦ λ there.
              let other = eqb-false a o.dot.author there in
              subst (IsThrough more a) (sym (known_there t o.dot.author o.dot.number a (omega (arith, next)) other)) (unchanged a (λ author number. other (sym author)))
        ] refl
    stepped false e a = unchanged a (λ author number. eqb-false (known t o.dot.author + 1) o.dot.number e (ap (λ q. known t q + 1) author ∙ sym number))

-- ---- operations in order

all_at : (p : Operation → Bool) (done : List Operation) (o : Operation) (rest : List Operation) → list_all p (done ++ o ∷ rest) ≡ true → p o ≡ true
all_at p [] o rest h = first_so _ _ h
all_at p (d ∷ done) o rest h = all_at p done o rest (second_so (p d) _ h)

not_after : (a b c : Ordering) → is_lt (ordering_then (ordering_then a b) c) ≡ true → a ≡ Equal → b ≡ Greater → ⊥
not_after Less b c h e g = cc
not_after Greater b c h e g = cc
not_after Equal Less c h e g = cc
not_after Equal Equal c h e g = cc
not_after Equal Greater c h e g = cc

no_greater : (d o : Operation) → is_lt (op_cmp d o) ≡ true → d.dot.author ≡ o.dot.author → d.dot.number ≤ o.dot.number
no_greater d o h same =
    let over : o.dot.number < d.dot.number → ⊥ = λ lt. not_after (nat_cmp d.dot.author o.dot.author) (nat_cmp d.dot.number o.dot.number) _ h (sym (nat_cmp_is _ _ Equal same)) (sym (nat_cmp_is _ _ Greater lt)) in
    grind (arith, over)

earlier_numbers : (done : List Operation) (o : Operation) (rest : List Operation) (n : ℕ) → rises op_cmp (done ++ o ∷ rest) ≡ true → has_dot done o.dot.author n ≡ true → n ≤ o.dot.number
earlier_numbers [] o rest n rising h = cc
earlier_numbers (d ∷ done) o rest n rising h =
    or_pair _ _ _
    (λ here. let pair = and_parts (d.dot.author == o.dot.author) (d.dot.number == n) here in
    let most = no_greater d o (all_at (λ p. is_lt (op_cmp d p)) done o rest (first_so _ _ rising)) (eqb-true d.dot.author o.dot.author pair.0) in
    omega (arith, most, eqb-true d.dot.number n pair.1))
    (λ later. earlier_numbers done o rest n (second_so (list_all (λ p. is_lt (op_cmp d p)) (done ++ o ∷ rest)) _ rising) later) h

pub run_through : (t : Clock) (done rest : List Operation) → rises op_cmp (done ++ rest) ≡ true → ((a : ℕ) → IsThrough done a (known t a)) → (a : ℕ) → IsThrough (done ++ rest) a (known (run t rest) a)
run_through t done [] rising before a = subst (λ ops. IsThrough ops a (known t a)) (sym (append-nil done)) (before a)
run_through t done (o ∷ rest) rising before a =
    let joined : (done ++ o ∷ []) ++ rest ≡ done ++ o ∷ rest = append_assoc done (o ∷ []) rest in
    subst (λ ops. IsThrough ops a (known (run (step t o) rest) a)) joined
    (run_through (step t o) (done ++ o ∷ []) rest (ap (rises op_cmp) joined ∙ rising)
    (stepped done o t before (λ n h. earlier_numbers done o rest n rising h) (known t o.dot.author + 1 == o.dot.number) refl) a)

-- ---- no entry is 0

positive_some : (n : ℕ) → 0 < n → positive n ≡ Some n
positive_some zero h = absurd (omega (arith, h))
positive_some (suc n) h = refl

IsPositive : Clock → Type 0
IsPositive t = (a : ℕ) → finmap.get t a ≡ positive (known t a)

raised_positive : (t : Clock) (author n : ℕ) → 0 < n → IsPositive t → IsPositive (raised t author n)
unfolding IsPositive
raised_positive t author n large h a = subst (λ x. x ≡ positive (unwrap_or x 0)) (sym (get-raised t author n large a)) (elim (eq_by_cmp nat_cmp a author) as (λ b. cond b (Some (max n (known t author))) (finmap.get t a) ≡ positive (unwrap_or (cond b (Some (max n (known t author))) (finmap.get t a)) 0)) [
  | true ↦ sym (positive_some (max n (known t author)) (omega (arith, large)))
  | false ↦ h a
])

step_positive : (t : Clock) (o : Operation) (b : Bool) → (known t o.dot.author + 1 == o.dot.number) ≡ b → IsPositive t → IsPositive (cond b (raised t o.dot.author o.dot.number) t)
step_positive t o true e h = raised_positive t o.dot.author o.dot.number (omega (arith, eqb-true (known t o.dot.author + 1) o.dot.number e)) h
step_positive t o false e h = h

run_positive : (t : Clock) (ops : List Operation) → IsPositive t → IsPositive (run t ops)
run_positive t [] h = h
run_positive t (o ∷ ops) h = run_positive (step t o) ops (step_positive t o (known t o.dot.author + 1 == o.dot.number) refl h)

pub none_known : (a : ℕ) → finmap.get empty a ≡ None
none_known a = finmap.get-empty nat_cmp a

pub run_is_clock : (ops : List Operation) → rises op_cmp ops ≡ true → IsClockOf ops (run empty ops)
unfolding IsPositive
run_is_clock ops rising a =
    run_positive empty ops (λ q. none_known q ∙ ap (λ x. positive (unwrap_or x 0)) (sym (none_known q))) a
    ∙ ap positive (unique ops a _ _ (run_through empty [] ops rising (λ q. subst (IsThrough [] q) (ap (λ x. unwrap_or x 0) (sym (none_known q))) (record { all = λ i low high. absurd (omega (arith, low, high)); gap = refl })) a) (is_through ops a))

module _ (now : Clock) (all : List Operation) (o : Operation) (rest : List Operation) (whole : Clock) (next : all ≡ o ∷ rest) where
  pub run_raised : (new : Clock) (author number : ℕ) → author ≡ o.dot.author → number ≡ o.dot.number → known now author + 1 ≡ number → new ≡ raised now author number → run now all ≡ whole → run new rest ≡ whole
  run_raised new author number of_author of_number is_next grown before =
      let test : (known now o.dot.author + 1 == o.dot.number) ≡ true = eq-eqb (known now o.dot.author + 1) o.dot.number (sym (ap (λ a. known now a + 1) of_author) ∙ is_next ∙ of_number) in
      let same : new ≡ step now o = grown ∙ (λ i. raised now (of_author i) (of_number i)) ∙ sym (ap (λ b. cond b (raised now o.dot.author o.dot.number) now) test) in
      ap (λ t. run t rest) same ∙ sym (ap (run now) next) ∙ before

  pub run_kept : (author number : ℕ) → author ≡ o.dot.author → number ≡ o.dot.number → (known now author + 1 ≡ number → ⊥) → run now all ≡ whole → run now rest ≡ whole
  run_kept author number of_author of_number other before =
      let test : (known now o.dot.author + 1 == o.dot.number) ≡ false = ne_eqb (known now o.dot.author + 1) o.dot.number (λ e. other (ap (λ a. known now a + 1) of_author ∙ e ∙ sym of_number)) in
      ap (λ t. run t rest) (sym (ap (λ b. cond b (raised now o.dot.author o.dot.number) now) test)) ∙ sym (ap (run now) next) ∙ before
