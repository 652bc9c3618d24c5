-- The least period of a game that is found among those of several games.
use Rattle.std.proofs.Common.{◌≡◌, ℕ, zero, suc, ◌+◌, ◌<◌, Bool, true, false, List, [], ◌∷◌, cond, length, take, get_or, Some, None, ap, subst, arith}
use native.Mathlib.Numerals.{unary_clauses}
use Rattle.std.specs.Cmp.{Equal-is}
use Rattle.std.proofs.lemmas.List.Elements.{All-get_or}
use Rattle.oct_code.specs.Code.{Code, code_cmp, code_eq}
use Rattle.oct_code.specs.CodeOrder.{code_cmp_exact}
use Rattle.oct_window.specs.Repeats.{IsLeastPeriod}
use Rattle.oct_proved.specs.Periods.{AreProved, period_in}
use Rattle.oct_proved.specs.declared.periods.ProvedPeriod.{ProvedPeriod}

-- it is that of the first one of this code
pub first_found : (periods : List ProvedPeriod) (c : Code) (i : ℕ) (d : ProvedPeriod) → i < length periods → period_in (take i periods) c ≡ None → code_eq (get_or periods i d).code c ≡ true
    → period_in periods c ≡ Some (get_or periods i d).seen
first_found [] c i d within none same = absurd (omega (arith, within))
first_found (p ∷ rest) c zero d within none same = ap (λ b. cond b (Some p.seen) (period_in rest c)) same
first_found (p ∷ rest) c (suc i) d within none same = by (code_eq p.code c) none (λ later. first_found rest c i d (omega (arith, within)) later same)
  where
    by : (b : Bool) → cond b (Some p.seen) (period_in (take i rest) c) ≡ None → (period_in (take i rest) c ≡ None → period_in rest c ≡ Some (get_or rest i d).seen)
        → cond b (Some p.seen) (period_in rest c) ≡ Some (get_or rest i d).seen
    by true none later = cc
    by false none later = later none

none_after : (periods : List ProvedPeriod) (c : Code) (i : ℕ) (d : ProvedPeriod) → i < length periods → period_in (take i periods) c ≡ None → code_eq (get_or periods i d).code c ≡ false
    → period_in (take (suc i) periods) c ≡ None
none_after [] c i d within none other = absurd (omega (arith, within))
none_after (p ∷ rest) c zero d within none other = ap (λ b. cond b (Some p.seen) None) other
none_after (p ∷ rest) c (suc i) d within none other = by (code_eq p.code c) none (λ later. none_after rest c i d (omega (arith, within)) later other)
  where
    by : (b : Bool) → cond b (Some p.seen) (period_in (take i rest) c) ≡ None → (period_in (take i rest) c ≡ None → period_in (take (suc i) rest) c ≡ None)
        → cond b (Some p.seen) (period_in (take (suc i) rest) c) ≡ None
    by true none later = cc
    by false none later = later none

-- the next one is of another game, and so are those before it
pub none_more : (periods : List ProvedPeriod) (c : Code) (i : ℕ) (d : ProvedPeriod) → i < length periods → period_in (take i periods) c ≡ None → code_eq (get_or periods i d).code c ≡ false
    → period_in (take (i + 1) periods) c ≡ None
none_more periods c i d within none other = simp unary_clauses (none_after periods c i d within none other)

-- and it is the least period of this game
pub its_least : (periods : List ProvedPeriod) (c : Code) (i : ℕ) (d : ProvedPeriod) → i < length periods → AreProved periods → code_eq (get_or periods i d).code c ≡ true
    → IsLeastPeriod c (get_or periods i d).seen
its_least periods c i d within proved same =
    let p = get_or periods i d in
    subst (λ code. IsLeastPeriod code p.seen) (code_cmp_exact p.code c ((Equal-is (code_cmp p.code c)).0 same)) (All-get_or (λ q. IsLeastPeriod q.code q.seen) periods i d within proved)
