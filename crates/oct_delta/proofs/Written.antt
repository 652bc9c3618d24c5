-- Bytes at whose end something was added.
use Rattle.std.proofs.Common.{◌≡◌, ℕ, [], ◌∷◌, ◌++◌, length, Result, Ok, Err, OnOk, false, ap, subst, ◌∙◌, append_assoc}
use Rattle.std.specs.Prelude.{IsErrAnd}
use Rattle.std.specs.Result.{is_err}
use Rattle.oct_delta.specs.Text.{Bytes}

-- an answer that is an error says nothing of what was written
pub unwritten : {T E : Type 0} (Q : E → Type 0) (P : Type 0) (r : Result T E) → IsErrAnd r Q → OnOk r P
unwritten Q P (Ok x) h = absurd h
unwritten Q P (Err e) h = tt

-- parts that were written one after the other
pub in_two : {T E : Type 0} (r : Result T E) (old a new x y : Bytes) → a ≡ old ++ x → OnOk r (new ≡ a ++ y) → OnOk r (new ≡ old ++ (x ++ y))
in_two (Ok _) old a new x y e h = h ∙ ap (λ (z : Bytes). z ++ y) e ∙ append_assoc old x y
in_two (Err _) old a new x y e h = tt

pub in_three : {T E : Type 0} (r : Result T E) (old a b new x y z : Bytes) → a ≡ old ++ x → b ≡ a ++ y → OnOk r (new ≡ b ++ z) → OnOk r (new ≡ old ++ (x ++ (y ++ z)))
in_three r old a b new x y z e f h = in_two r old a new x (y ++ z) e (in_two r a b new y z f h)

-- two texts, each behind its length
pub in_lengths : {T E : Type 0} (r : Result T E) (old a b c new one one' other other' : Bytes) (n m : ℕ) → a ≡ old ++ n ∷ [] → b ≡ a ++ one' → c ≡ b ++ m ∷ [] → OnOk r (new ≡ c ++ other') → n ≡ length one → one' ≡ one → m ≡ length other → other' ≡ other
    → OnOk r (new ≡ old ++ (length one ∷ (one ++ (length other ∷ other))))
in_lengths r old a b c new one one' other other' n m e f g h len is len' is' =
    subst (λ (z : Bytes). OnOk r (new ≡ old ++ z)) (λ i. len i ∷ (is i ++ (len' i ∷ is' i)))
    (in_two r old a new (n ∷ []) (one' ++ (m ∷ [] ++ other')) e (in_three r a b c new one' (m ∷ []) other' f g h))

-- what a call wrote, where it did not fail
pub written : {T E : Type 0} (r : Result T E) (P : Type 0) → is_err r ≡ false → OnOk r P → P
written (Ok x) P e h = h
written (Err x) P e h = absurd cc
