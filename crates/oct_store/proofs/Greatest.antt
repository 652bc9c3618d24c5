-- An author's last number is its greatest, and the clock of a list of operations gives each author its number.
use Rattle.std.proofs.Common.{arith, ◌≡◌, ◌≤◌, ◌⊎◌, inl, inr, ℕ, zero, suc, ◌==◌, max, Bool, true, false, ◌&&◌, ◌||◌, cond, List, [], ◌∷◌, map, Some, None, get_or, refl, sym, ap, ◌∙◌, eq-eqb}
use Rattle.std.specs.Prelude.{nat_le}
use Rattle.std.specs.List.{All, Any, fold, filter, list_any}
use Rattle.std.specs.Ordering.{nat_cmp, eq_by_cmp}
use Rattle.std.specs.Cmp.{nat_cmp_total, unsigned_tied, Equal-is}
use Rattle.std.specs.FinMap as finmap
use Rattle.std.specs.FinMap.{nat_cmp-IsAntisymmetric}
use Rattle.std.proofs.lemmas.Bool.{eqb-true, and_from, and_parts, or_left, or_right}
use Rattle.std.proofs.lemmas.List.Folds.{Any-from_list_any, list_any-from_Any}
use Rattle.std.proofs.lemmas.Bool.Decides.{nat_tests}
use Rattle.oct_ops.specs.Arranged.{arranged}
use Rattle.oct_ops.specs.Body.{Operation}
use Rattle.oct_ops.specs.Sets.{set_of}
use Rattle.oct_ops.specs.SetLaws.{contains-listed, contains-set_of, listed-arranged}
use Rattle.oct_join.specs.Clock.{Clock}
use Rattle.oct_join.specs.ClockLaws.{find-each, same_clock}
use Rattle.oct_store.specs.Laws.{IsLast}
use Rattle.oct_store.specs.Summary.{has_dot, numbers_of, last, through, authors, clock_of, positive, IsClockOf}
use Rattle.oct_store.proofs.Throughs.{at_most_last, is_through}

-- the greatest number of those from a start on is the start or a number of the author
among : (ops : List Operation) (author start : ℕ) → (fold max start (numbers_of ops author) ≡ start) ⊎ (has_dot ops author (fold max start (numbers_of ops author)) ≡ true)
among [] author start = inl refl
among (o ∷ ops) author start =
    elim (o.dot.author == author) as (λ b. (o.dot.author == author) ≡ b → (fold max start (map (λ p. p.dot.number) (cond b (o ∷ filter (λ p. p.dot.author == author) ops) (filter (λ p. p.dot.author == author) ops))) ≡ start) ⊎ (has_dot (o ∷ ops) author (fold max start (map (λ p. p.dot.number) (cond b (o ∷ filter (λ p. p.dot.author == author) ops) (filter (λ p. p.dot.author == author) ops)))) ≡ true)) [
      | true ↦ λ own. elim (among ops author (max start o.dot.number)) [
        | inl same ↦ elim (nat_le o.dot.number start) as (λ b. nat_le o.dot.number start ≡ b → (fold max (max start o.dot.number) (numbers_of ops author) ≡ start) ⊎ (has_dot (o ∷ ops) author (fold max (max start o.dot.number) (numbers_of ops author)) ≡ true)) [
          | true ↦ λ low. inl (grind (arith, same, low))
          | false ↦ λ high. let is : o.dot.number ≡ fold max (max start o.dot.number) (numbers_of ops author) = grind (arith, same, high) in inr (or_left _ _ (and_from _ _ own (eq-eqb _ _ is)))
        ] refl
        | inr later ↦ inr (or_right _ _ later)
      ]
      | false ↦ λ _. elim (among ops author start) [ inl same ↦ inl same | inr later ↦ inr (or_right _ _ later) ]
    ] refl

pub is_last : (ops : List Operation) (author : ℕ) → IsLast ops author (last ops author)
is_last ops author = record { above = λ i here. at_most_last ops author i 0 here; is = among ops author 0 }

-- a number that none of the author's is greater than, and that is one of them or 0
pub last_is : (ops : List Operation) (author n : ℕ) → All (λ o. o.dot.author ≡ author → o.dot.number ≤ n) ops → (n ≡ 0) ⊎ Any (λ o. (o.dot.author ≡ author) × (o.dot.number ≡ n)) ops → n ≡ last ops author
last_is ops author n above is =
    let greatest = is_last ops author in
    let test : ℕ → Operation → Bool = λ m o. (o.dot.author == author) && (o.dot.number == m) in
    let high : n ≤ last ops author = elim is [
      | inl none ↦ omega (arith, none)
      | inr found ↦ greatest.above n (list_any-from_Any (test n) ops (found.0, found.1, found.2, found.3, and_from _ _ (eq-eqb _ _ found.4.0) (eq-eqb _ _ found.4.1)))
    ] in
    let low : last ops author ≤ n = elim greatest.is [
      | inl none ↦ omega (arith, none)
      | inr here ↦
          let (k, o, lt, at, passes) = Any-from_list_any (test (last ops author)) ops here in
          let parts = and_parts (o.dot.author == author) (o.dot.number == last ops author) passes in
          let own : (get_or ops k o).dot.author ≡ author = ap (λ p. p.dot.author) at ∙ eqb-true _ _ parts.0 in
          omega (arith, above k o lt own, ap (λ p. p.dot.number) at, eqb-true _ _ parts.1)
    ] in
    omega (arith, high, low)

-- a test that tied keys pass alike
any-filter : (p : ℕ → Bool) (q : ℕ) (ks : List ℕ) → list_any (eq_by_cmp nat_cmp q) (filter p ks) ≡ (p q && list_any (eq_by_cmp nat_cmp q) ks)
any-filter p q [] = none (p q)
  where
    none : (b : Bool) → false ≡ (b && false)
    none true = refl
    none false = refl
any-filter p q (k ∷ ks) =
    elim (eq_by_cmp nat_cmp q k) as (λ t. eq_by_cmp nat_cmp q k ≡ t → list_any (eq_by_cmp nat_cmp q) (cond (p k) (k ∷ filter p ks) (filter p ks)) ≡ (p q && (t || list_any (eq_by_cmp nat_cmp q) ks))) [
      | true ↦ λ tied.
          let same : q ≡ k = nat_cmp-IsAntisymmetric q k ((Equal-is (nat_cmp q k)).0 tied) in
          ap (λ l. list_any (eq_by_cmp nat_cmp q) (cond (p l) (k ∷ filter p ks) (filter p ks))) (sym same) ∙ here (p q) tied (any-filter p q ks)
      | false ↦ λ apart. there (p k) apart ∙ any-filter p q ks
    ] refl
  where
    here : (b : Bool) → eq_by_cmp nat_cmp q k ≡ true → list_any (eq_by_cmp nat_cmp q) (filter p ks) ≡ (b && list_any (eq_by_cmp nat_cmp q) ks) → list_any (eq_by_cmp nat_cmp q) (cond b (k ∷ filter p ks) (filter p ks)) ≡ (b && true)
    here true tied rest = or_left _ _ tied
    here false tied rest = rest

    there : (b : Bool) → eq_by_cmp nat_cmp q k ≡ false → list_any (eq_by_cmp nat_cmp q) (cond b (k ∷ filter p ks) (filter p ks)) ≡ list_any (eq_by_cmp nat_cmp q) (filter p ks)
    there true apart = ap (λ t. t || list_any (eq_by_cmp nat_cmp q) (filter p ks)) apart
    there false apart = refl

any-arranged : (q : ℕ) (ks : List ℕ) → list_any (eq_by_cmp nat_cmp q) (arranged nat_cmp ks) ≡ list_any (eq_by_cmp nat_cmp q) ks
any-arranged q ks =
    ap (list_any (eq_by_cmp nat_cmp q)) (sym (listed-arranged nat_cmp_total nat_cmp-IsAntisymmetric ks))
    ∙ sym (contains-listed (set_of {R = nat_cmp} ks) q) ∙ contains-set_of nat_cmp_total nat_cmp-IsAntisymmetric ks q

-- who has an operation is an author
has_author : (ops : List Operation) (q n : ℕ) → has_dot ops q n ≡ true → list_any (eq_by_cmp nat_cmp q) (map (λ o. o.dot.author) ops) ≡ true
has_author [] q n h = cc
has_author (o ∷ ops) q n h =
    elim (eq_by_cmp nat_cmp q o.dot.author) as (λ t. eq_by_cmp nat_cmp q o.dot.author ≡ t → (t || list_any (eq_by_cmp nat_cmp q) (map (λ p. p.dot.author) ops)) ≡ true) [
      | true ↦ λ _. refl
      | false ↦ λ apart. has_author ops q n (elim ((o.dot.author == q) && (o.dot.number == n)) as (λ b. ((o.dot.author == q) && (o.dot.number == n)) ≡ b → (b || has_dot ops q n) ≡ true → has_dot ops q n ≡ true) [
        | true ↦ λ own _.
            let same : o.dot.author ≡ q = eqb-true o.dot.author q (and_parts (o.dot.author == q) (o.dot.number == n) own).0 in
            let tied : eq_by_cmp nat_cmp q o.dot.author ≡ true = unsigned_tied q o.dot.author ∙ eq-eqb q o.dot.author (sym same) in
            let clash : true ≡ false = sym tied ∙ apart in cc
        | false ↦ λ _ later. later
      ] refl h)
    ] refl

pub clock_of-is : (ops : List Operation) → IsClockOf ops (clock_of ops)
clock_of-is ops q =
    finmap.get-from_entries nat_cmp_total _ q
    ∙ find-each (through ops) (filter (λ a. nat_le 1 (through ops a)) (authors ops)) q
    ∙ ap (λ b. cond b (Some (through ops q)) None) (any-filter (λ a. nat_le 1 (through ops a)) q (authors ops) ∙ ap (λ b. nat_le 1 (through ops q) && b) (any-arranged q (map (λ o. o.dot.author) ops)))
    ∙ at (through ops q) refl
  where
    at : (j : ℕ) → through ops q ≡ j → cond (nat_le 1 j && list_any (eq_by_cmp nat_cmp q) (map (λ o. o.dot.author) ops)) (Some j) None ≡ positive j
    at zero is = refl
    at (suc j) is =
        let first : has_dot ops q 1 ≡ true = (is_through ops q).all 1 (omega arith) (omega (arith, is)) in
        let positive : nat_le 1 (suc j) ≡ true = grind (arith, nat_tests) in
        ap (λ b. cond (b && list_any (eq_by_cmp nat_cmp q) (map (λ o. o.dot.author) ops)) (Some (suc j)) None) positive
        ∙ ap (λ b. cond b (Some (suc j)) None) (has_author ops q 1 first)

pub clock_is : (ops : List Operation) (t : Clock) → IsClockOf ops t → t ≡ clock_of ops
clock_is ops t is = same_clock t (clock_of ops) (λ q. is q ∙ sym (clock_of-is ops q))
