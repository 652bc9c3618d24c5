-- Texts that are joined from parts, one after another.
use Rattle.std.proofs.Common.{◌≡◌, ℕ, List, [], ◌∷◌, ◌++◌, sym, ap, ◌∙◌, append_assoc}
use Rattle.std.specs.Prelude.{Result, OnOk}
use Rattle.std.specs.declared.alloc.AllocError.{AllocError}
use Rattle.std.specs.List.{concat}
use Rattle.std.proofs.lemmas.List.{append-nil}
use Rattle.std.proofs.lemmas.Result.{on_ok_weaker}

concat-append : (xs : List (List ℕ)) (last : List ℕ) → concat (xs ++ last ∷ []) ≡ concat xs ++ last
concat-append [] last = append-nil last
concat-append (x ∷ xs) last = ap (λ t. x ++ t) (concat-append xs last) ∙ sym (append_assoc x (concat xs) last)

-- one part more
joined : (parts : List (List ℕ)) (old so_far next part : List ℕ) → so_far ≡ old ++ concat parts → next ≡ so_far ++ part → next ≡ old ++ concat (parts ++ part ∷ [])
joined parts old so_far next part e f =
    f ∙ ap (λ t. t ++ part) e ∙ append_assoc old (concat parts) part ∙ ap (λ t. old ++ t) (sym (concat-append parts part))

one : (old x a : List ℕ) → x ≡ old ++ a → x ≡ old ++ concat (a ∷ [])
one old x a e = e ∙ ap (λ t. old ++ t) (sym (append-nil a))

pub joined_two : (r : Result (Unit {0}) AllocError) (old x y a b : List ℕ) → x ≡ old ++ a → OnOk r (y ≡ x ++ b) → OnOk r (y ≡ old ++ concat (a ∷ b ∷ []))
joined_two r old x y a b e = on_ok_weaker r (joined (a ∷ []) old x y b (one old x a e))

pub joined_three : (r : Result (Unit {0}) AllocError) (old x y z a b c : List ℕ) → x ≡ old ++ a → y ≡ x ++ b → OnOk r (z ≡ y ++ c)
    → OnOk r (z ≡ old ++ concat (a ∷ b ∷ c ∷ []))
joined_three r old x y z a b c e f = on_ok_weaker r (joined (a ∷ b ∷ []) old y z c (joined (a ∷ []) old x y b (one old x a e) f))

pub joined_four : (r : Result (Unit {0}) AllocError) (old w x y z a b c d : List ℕ) → w ≡ old ++ a → x ≡ w ++ b → y ≡ x ++ c → OnOk r (z ≡ y ++ d)
    → OnOk r (z ≡ old ++ concat (a ∷ b ∷ c ∷ d ∷ []))
joined_four r old w x y z a b c d p q s =
    on_ok_weaker r (joined (a ∷ b ∷ c ∷ []) old y z d (joined (a ∷ b ∷ []) old x y c (joined (a ∷ []) old w x b (one old w a p) q) s))

pub joined_five : (r : Result (Unit {0}) AllocError) (old v w x y z a b c d e : List ℕ) → v ≡ old ++ a → w ≡ v ++ b → x ≡ w ++ c → y ≡ x ++ d → OnOk r (z ≡ y ++ e)
    → OnOk r (z ≡ old ++ concat (a ∷ b ∷ c ∷ d ∷ e ∷ []))
joined_five r old v w x y z a b c d e p q s t =
    on_ok_weaker r (joined (a ∷ b ∷ c ∷ d ∷ []) old y z e
    (joined (a ∷ b ∷ c ∷ []) old x y d (joined (a ∷ b ∷ []) old w x c (joined (a ∷ []) old v w b (one old v a p) q) s) t))
