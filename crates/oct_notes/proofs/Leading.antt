-- Where two names begin differently, they compare as their beginnings do.
use Rattle.std.proofs.Common.{arith, ◌≡◌, ℕ, zero, suc, ◌+◌, ◌*◌, ◌^◌, ◌<◌, min, List, [], ◌∷◌, ◌++◌, length, take, drop, refl, sym, ap, subst, ◌∙◌}
use Rattle.std.specs.Cmp.Lexicographic.{slice_cmp}
use Rattle.std.specs.Int.{w64, from_be_bytes}
use Rattle.std.specs.Ordering.{nat_cmp, ordering_then, ordering_reverse}
use Rattle.std.specs.declared.cmp.Ordering.{Ordering}
use Rattle.std.specs.declared.cmp.Ordering.TheVariants.{Less, Equal}
use Rattle.std.proofs.Math.Nat.{mul_comm, one-le-pow, pow-succ'}
use Rattle.std.proofs.lemmas.Cmp.{by_ranked, ranked}
use Rattle.std.proofs.lemmas.Nat.{mul-add-lt}
use Rattle.oct_ops.specs.Body.{Operation}
use Rattle.oct_ops.specs.Order.{op_cmp}
use Rattle.oct_notes.specs.Leads.{AreBytes, Leads, lead, lead_of}
use Rattle.oct_notes.specs.Notes.{name_of, note_order}
use Rattle.oct_notes.proofs.Lives.{note_order_total}

-- ---- the bytes in their places

abbrev zeros : List ℕ
zeros = 0 ∷ 0 ∷ 0 ∷ 0 ∷ 0 ∷ 0 ∷ 0 ∷ 0 ∷ []

-- the first n bytes of the name, and zeros up to the eighth place
abbrev filled : ℕ → List ℕ → ℕ
filled n name = from_be_bytes w64 (take n name ++ drop n zeros)

at_length : (k n : ℕ) (name : List ℕ) → n ≡ k → filled k name ≡ lead_of name → filled n name ≡ lead_of name
at_length k n name is same = subst (λ m. filled m name ≡ lead_of name) (sym is) same

filled_is_lead : (name : List ℕ) (n : ℕ) → n ≡ min (length name) 8 → filled n name ≡ lead_of name
filled_is_lead [] n is = at_length 0 n [] is (omega arith)
filled_is_lead (a ∷ []) n is = at_length 1 n (a ∷ []) is (omega arith)
filled_is_lead (a ∷ b ∷ []) n is = at_length 2 n (a ∷ b ∷ []) is (omega arith)
filled_is_lead (a ∷ b ∷ c ∷ []) n is = at_length 3 n (a ∷ b ∷ c ∷ []) is (omega arith)
filled_is_lead (a ∷ b ∷ c ∷ d ∷ []) n is = at_length 4 n (a ∷ b ∷ c ∷ d ∷ []) is (omega arith)
filled_is_lead (a ∷ b ∷ c ∷ d ∷ e ∷ []) n is = at_length 5 n (a ∷ b ∷ c ∷ d ∷ e ∷ []) is (omega arith)
filled_is_lead (a ∷ b ∷ c ∷ d ∷ e ∷ f ∷ []) n is = at_length 6 n (a ∷ b ∷ c ∷ d ∷ e ∷ f ∷ []) is (omega arith)
filled_is_lead (a ∷ b ∷ c ∷ d ∷ e ∷ f ∷ g ∷ []) n is = at_length 7 n (a ∷ b ∷ c ∷ d ∷ e ∷ f ∷ g ∷ []) is (omega arith)
filled_is_lead (a ∷ b ∷ c ∷ d ∷ e ∷ f ∷ g ∷ h ∷ more) n is = at_length 8 n (a ∷ b ∷ c ∷ d ∷ e ∷ f ∷ g ∷ h ∷ more) (omega (arith, is)) (omega arith)

-- the array reads so, once the front of the name stands over its zeros
pub padded : (name front : List ℕ) (n : ℕ) → n ≡ min (length name) 8 → front ≡ take n name → from_be_bytes w64 (front ++ drop n zeros) ≡ lead_of name
padded name front n is taken = ap (λ l. from_be_bytes w64 (l ++ drop n zeros)) taken ∙ filled_is_lead name n is

-- ---- how they compare

-- k bytes are a number below 256 ^ k
below : (k : ℕ) (bytes : List ℕ) → AreBytes bytes → lead k bytes < 256 ^ k
below zero bytes are = omega arith
below (suc k) [] are = let positive = one-le-pow (suc k) 256 (omega arith) in omega (arith, positive)
below (suc k) (x ∷ xs) are =
    subst (λ n. x * 256 ^ k + lead k xs < n) (mul_comm (256 ^ k) 256 ∙ sym (pow-succ' 256 k)) (mul-add-lt x (256 ^ k) (lead k xs) 256 (are 0) (below k xs (λ i. are (suc i))))

-- what begins lower is lower
lower : (k : ℕ) (xs ys : List ℕ) → AreBytes xs → AreBytes ys → lead k xs < lead k ys → slice_cmp nat_cmp xs ys ≡ Less
lower zero xs ys bytes others less = absurd (omega (arith, less))
lower (suc k) [] [] bytes others less = absurd (omega (arith, less))
lower (suc k) [] (y ∷ ys) bytes others less = refl
lower (suc k) (x ∷ xs) [] bytes others less = absurd (omega (arith, less))
lower (suc k) (x ∷ xs) (y ∷ ys) bytes others less =
    by_ranked _ _ _ (nat_cmp x y) (ranked x y _ refl)
    (λ is _. ap (λ o. ordering_then o (slice_cmp nat_cmp xs ys)) is)
    (λ is same.
    let worth : x * 256 ^ k ≡ y * 256 ^ k = ap (λ n. n * 256 ^ k) same in
    ap (λ o. ordering_then o (slice_cmp nat_cmp xs ys)) is
    ∙ lower k xs ys (λ i. bytes (suc i)) (λ i. others (suc i)) (omega (arith, less, worth)))
    (λ _ above.
    let within : y * 256 ^ k + lead k ys < 256 ^ k * x = mul-add-lt y (256 ^ k) (lead k ys) x above (below k ys (λ i. others (suc i))) in
    let turned : 256 ^ k * x ≡ x * 256 ^ k = mul_comm (256 ^ k) x in
    absurd (omega (arith, less, within, turned)))

-- ---- notes

lower_note : (x y : Operation) → AreBytes (name_of x.body) → AreBytes (name_of y.body) → lead_of (name_of x.body) < lead_of (name_of y.body) → note_order x y ≡ Less
lower_note x y bytes others less = ap (λ o. ordering_then o (op_cmp x y)) (lower 8 (name_of x.body) (name_of y.body) bytes others less)

-- two notes whose names begin differently compare as the beginnings do
pub by_lead : (x y : Operation) (a b : ℕ) → Leads a x → Leads b y → (o : Ordering) → o ≡ nat_cmp a b → (o ≡ Equal → ⊥) → o ≡ note_order x y
by_lead x y a b mine others o is apart =
    by_ranked _ _ _ o (ranked a b o is)
    (λ less low. less ∙ sym (lower_note x y mine.bytes others.bytes (omega (arith, low, mine.is, others.is))))
    (λ same _. absurd (apart same))
    (λ greater high. greater ∙ sym (note_order_total.antisymm x y ∙ ap ordering_reverse (lower_note y x others.bytes mine.bytes (omega (arith, high, mine.is, others.is)))))
