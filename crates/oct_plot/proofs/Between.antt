-- The heaps from one to another, found among all.
use Rattle.std.proofs.Common.{arith, ◌≡◌, ◌≤◌, ◌<◌, inl, inr, ℕ, zero, suc, ◌+◌, ◌-◌, Bool, false, ◌&&◌, ◌||◌, List, [], ◌∷◌, take, drop, nat_le, refl, sym, ap, ◌∙◌}
use Rattle.std.specs.List.{enumerate_from, list_any}
use Rattle.std.proofs.Math.Bool.{and-false}
use Rattle.std.proofs.Math.Seq.{take-nil}
use Rattle.std.proofs.lemmas.Bool.{lt-leb, le-leb}
use Rattle.std.proofs.lemmas.Bool.Decides.{leb_tells}

module _ (f : ℕ × ℕ → Bool) (from to : ℕ) where
  -- the test, of these heaps alone
  abbrev pub among : ℕ × ℕ → Bool
  among h = (nat_le from h.0 && nat_le h.0 to) && f h

  -- none is found behind the last
  past : (k : ℕ) (vs : List ℕ) → to < k → list_any among (enumerate_from k vs) ≡ false
  past k [] behind = refl
  past k (v ∷ vs) behind =
      let no : nat_le k to ≡ false = lt-leb k to behind in
      let rest : to < k + 1 = omega (arith, behind) in
      (λ i. ((nat_le from k && no i) && f (k, v)) || past (k + 1) vs rest i) ∙ ap (λ b. (b && f (k, v)) || false) (and-false (nat_le from k))

  -- from the first of them on
  onward : (k : ℕ) (vs : List ℕ) → from ≤ k → list_any among (enumerate_from k vs) ≡ list_any f (enumerate_from k (take (to + 1 - k) vs))
  onward k [] reached = ap (λ xs. list_any f (enumerate_from k xs)) (sym (take-nil (to + 1 - k)))
  onward k (v ∷ vs) reached = elim (leb_tells k to) as (λ _. list_any among (enumerate_from k (v ∷ vs)) ≡ list_any f (enumerate_from k (take (to + 1 - k) (v ∷ vs)))) [
    | inl here ↦
        let yes = le-leb from k reached in
        let more : suc (to + 1 - (k + 1)) ≡ to + 1 - k = omega (arith, here.1) in
        (λ i. ((yes i && here.0 i) && f (k, v)) || onward (k + 1) vs (omega (arith, reached)) i)
        ∙ ap (λ n. list_any f (enumerate_from k (take n (v ∷ vs)))) more
    | inr beyond ↦
        let none : 0 ≡ to + 1 - k = omega (arith, beyond.1) in
        past k (v ∷ vs) beyond.1 ∙ ap (λ n. list_any f (enumerate_from k (take n (v ∷ vs)))) none
  ]

  -- from a heap on that is so far before the first of them
  pub found_between : (d k : ℕ) (vs : List ℕ) → from ≡ k + d → list_any among (enumerate_from k vs) ≡ list_any f (enumerate_from from (take (to + 1 - from) (drop d vs)))
  found_between zero k vs at =
      let here : k ≡ from = omega (arith, at) in
      onward k vs (omega (arith, at)) ∙ ap (λ n. list_any f (enumerate_from n (take (to + 1 - n) vs))) here
  found_between (suc d) k [] at = ap (λ xs. list_any f (enumerate_from from xs)) (sym (take-nil (to + 1 - from)))
  found_between (suc d) k (v ∷ vs) at =
      let no : nat_le from k ≡ false = lt-leb from k (omega (arith, at)) in
      ap (λ b. ((b && nat_le k to) && f (k, v)) || list_any among (enumerate_from (k + 1) vs)) no ∙ found_between d (k + 1) vs (omega (arith, at))
