-- A search through lists one after another.
use Rattle.std.proofs.Common.{◌≡◌, ℕ, zero, suc, ◌+◌, ◌<◌, ◌≤◌, Bool, true, false, cond, List, [], ◌∷◌, ◌++◌, map, Option, Some, None, inl, inr, refl, sym, ap, ◌∙◌, arith}
use Rattle.std.proofs.lemmas.Bool.{cases_eq}
use Rattle.std.specs.List.{find, flat_map, range_with_len}
use Rattle.std.specs.Option.{is_some}

module _ {X : Type 0} (p : X → Bool) where
  pub find_here : (x : X) (xs : List X) → p x ≡ true → find p (x ∷ xs) ≡ Some x
  find_here x xs passes = ap (λ b. cond b (Some x) (find p xs)) passes

  pub find_later : (x : X) (xs : List X) → p x ≡ false → find p (x ∷ xs) ≡ find p xs
  find_later x xs fails = ap (λ b. cond b (Some x) (find p xs)) fails

  pub find-append_some : (x : X) (xs ys : List X) → find p xs ≡ Some x → find p (xs ++ ys) ≡ Some x
  find-append_some x [] ys h = cc
  find-append_some x (y ∷ xs) ys h = elim (p y) as (λ b. cond b (Some y) (find p xs) ≡ Some x → cond b (Some y) (find p (xs ++ ys)) ≡ Some x) [
    | true ↦ λ k. k
    | false ↦ λ k. find-append_some x xs ys k
  ] h

  pub find-append_none : (xs ys : List X) → find p xs ≡ None → find p (xs ++ ys) ≡ find p ys
  find-append_none [] ys h = refl
  find-append_none (y ∷ xs) ys h = elim (p y) as (λ b. cond b (Some y) (find p xs) ≡ None → cond b (Some y) (find p (xs ++ ys)) ≡ find p ys) [
    | true ↦ λ k. cc
    | false ↦ λ k. find-append_none xs ys k
  ] h

  -- lists for the numbers of a range: found in the list of the first number that has one
  module _ (lists : ℕ → List X) where
    pub find-lists_some : (a n at : ℕ) (x : X) → a ≤ at → at < a + n → find p (lists at) ≡ Some x → ((k : ℕ) → a ≤ k → k < at → find p (lists k) ≡ None)
        → find p (flat_map lists (range_with_len a n)) ≡ Some x
    find-lists_some a zero at x low high here before = absurd (omega arith)
    find-lists_some a (suc n) at x low high here before = elim (cases_eq a at) [
      | inl same ↦ find-append_some x (lists a) (flat_map lists (range_with_len (a + 1) n)) (ap (λ k. find p (lists k)) same ∙ here)
      | inr other ↦
          find-append_none (lists a) (flat_map lists (range_with_len (a + 1) n)) (before a (omega arith) (omega arith))
          ∙ find-lists_some (a + 1) n at x (omega arith) (omega arith) here (λ k more less. before k (omega arith) less)
    ]

    pub find-lists_none : (a n : ℕ) → ((k : ℕ) → a ≤ k → k < a + n → find p (lists k) ≡ None) → find p (flat_map lists (range_with_len a n)) ≡ None
    find-lists_none a zero none = refl
    find-lists_none a (suc n) none =
        find-append_none (lists a) (flat_map lists (range_with_len (a + 1) n)) (none a (omega arith) (omega arith))
        ∙ find-lists_none (a + 1) n (λ k more less. none k (omega arith) (omega arith))

  -- one for each number of a range: found is the first that passes
  module _ (each : ℕ → X) where
    pub find-each_some : (a n at : ℕ) → a ≤ at → at < a + n → p (each at) ≡ true → ((k : ℕ) → a ≤ k → k < at → p (each k) ≡ false)
        → find p (map each (range_with_len a n)) ≡ Some (each at)
    find-each_some a zero at low high here before = absurd (omega arith)
    find-each_some a (suc n) at low high here before = elim (cases_eq a at) [
      | inl same ↦ find_here (each a) (map each (range_with_len (a + 1) n)) (ap (λ k. p (each k)) same ∙ here) ∙ ap (λ k. Some (each k)) same
      | inr other ↦
          find_later (each a) (map each (range_with_len (a + 1) n)) (before a (omega arith) (omega arith))
          ∙ find-each_some (a + 1) n at (omega arith) (omega arith) here (λ k more less. before k (omega arith) less)
    ]

    pub find-each_none : (a n : ℕ) → ((k : ℕ) → a ≤ k → k < a + n → p (each k) ≡ false) → find p (map each (range_with_len a n)) ≡ None
    find-each_none a zero none = refl
    find-each_none a (suc n) none =
        find_later (each a) (map each (range_with_len (a + 1) n)) (none a (omega arith) (omega arith))
        ∙ find-each_none (a + 1) n (λ k more less. none k (omega arith) (omega arith))

-- ---- a search that goes on until something is found

pub none_if : {X : Type 0} (r : Option X) → is_some r ≡ false → r ≡ None
none_if None fails = refl
none_if (Some x) fails = cc

pub lists_found : {X : Type 0} (p : X → Bool) (lists : ℕ → List X) (n at : ℕ) (r : Option X) → at < n → r ≡ find p (lists at) → is_some r ≡ true
    → ((k : ℕ) → k < at → find p (lists k) ≡ None) → r ≡ find p (flat_map lists (range_with_len 0 n))
lists_found p lists n at None low is there before = cc
lists_found p lists n at (Some x) low is there before = sym (find-lists_some p lists 0 n at x (omega arith) (omega arith) (sym is) (λ k _ less. before k less))

pub none_before : {X : Type 0} (p : X → Bool) (lists : ℕ → List X) (at : ℕ) → ((k : ℕ) → k < at → find p (lists k) ≡ None) → find p (lists at) ≡ None
    → (k : ℕ) → k < at + 1 → find p (lists k) ≡ None
none_before p lists at before here k low = elim (cases_eq k at) [
  | inl same ↦ ap (λ n. find p (lists n)) same ∙ here
  | inr other ↦ before k (omega arith)
]
