use Rattle.std.proofs.Common.{inl, inr, ◌≤◌, ◌<◌, ◌^◌, ℕ, ap, arith}
use Rattle.std.proofs.Math.Nat.{eq-or-lt_of_le}
use Rattle.std.proofs.Math.Pow.{pow-lt}
use Rattle.std.proofs.lemmas.Bool.Decides.{leb_tells}
use Rattle.oct_saved.proofs.lists.used_for.Goals as goal

grows : (a b : ℕ) → a ≤ b → 2 ^ a ≤ 2 ^ b
grows a b le = elim (eq-or-lt_of_le le) [ inl same ↦ omega (arith, ap (λ (x : ℕ). 2 ^ x) same) | inr lt ↦ omega (arith, pow-lt lt) ]

-- a power of two below 2 ^ 17 is at most 2 ^ 16
at_most : (x : ℕ) → 2 ^ x < 2 ^ 17 → 2 ^ x ≤ 2 ^ 16
at_most x lt = elim (leb_tells x 16) [ inl le ↦ grows x 16 le.1 | inr gt ↦ absurd (omega (arith, grows 17 x gt.1)) ]

pub returns-clause-most : goal.returns-clause-most
returns-clause-most c =
    let p = c.next_power_of_two.ensures.power in
    let few : 2 ^ p.0 < 2 ^ 17 = omega (arith, p.1) in
    omega (arith, at_most p.0 few, p.1)
