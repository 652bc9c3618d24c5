-- The pieces that a range gives, one more at a time.
use Rattle.std.proofs.Common.{arith, ◌≡◌, ℕ, zero, suc, ◌+◌, List, ◌++◌, map, sym, ap, ◌∙◌, append_assoc}
use Rattle.std.specs.List.{concat, range_with_len}
use Rattle.std.proofs.lemmas.List.{append-nil}

next_from : (f : ℕ → List ℕ) (a n : ℕ) → concat (map f (range_with_len a (suc n))) ≡ concat (map f (range_with_len a n)) ++ f (a + n)
next_from f a zero = let same : a ≡ a + 0 = omega arith in append-nil (f a) ∙ ap f same
next_from f a (suc n) =
    let same : a + 1 + n ≡ a + suc n = omega arith in
    ap (λ t. f a ++ t) (next_from f (a + 1) n ∙ ap (λ k. concat (map f (range_with_len (a + 1) n)) ++ f k) same)
    ∙ sym (append_assoc (f a) (concat (map f (range_with_len (a + 1) n))) (f (a + suc n)))

pub range_next : (f : ℕ → List ℕ) (n : ℕ) → concat (map f (range_with_len 0 (n + 1))) ≡ concat (map f (range_with_len 0 n)) ++ f n
range_next f n =
    let one : n + 1 ≡ suc n = omega arith in
    let same : 0 + n ≡ n = omega arith in
    ap (λ k. concat (map f (range_with_len 0 k))) one ∙ next_from f 0 n ∙ ap (λ k. concat (map f (range_with_len 0 n)) ++ f k) same
