-- Texts that are joined with commas, one after another.
use Rattle.std.proofs.Common.{◌≡◌, ℕ, ◌+◌, ◌<◌, get_or, Bool, true, false, List, [], ◌∷◌, ◌++◌, drop, length, map, refl, sym, ap, ◌∙◌, append_assoc}
use Rattle.std.specs.List.{flat_map, join_with_byte}
use Rattle.std.proofs.lemmas.List.{append-nil, drop_more}
use Rattle.oct_sql.specs.Cells.{comma_if}

-- the texts that are left, where something stands before or nothing does
abbrev pub left_text : Bool → List (List ℕ) → List ℕ
left_text true xs = flat_map (λ x. 44 ∷ x) xs
left_text false xs = join_with_byte 44 xs

-- joined texts are the first, and then each behind a comma
begun : (x : List ℕ) (xs : List (List ℕ)) → join_with_byte 44 (x ∷ xs) ≡ x ++ flat_map (λ y. 44 ∷ y) xs
begun x [] = sym (append-nil x)
begun x (y ∷ xs) = ap (λ t. x ++ 44 ∷ t) (begun y xs)

left_begun : (later : Bool) (x : List ℕ) (xs : List (List ℕ)) → left_text later (x ∷ xs) ≡ (comma_if later ++ x) ++ left_text true xs
left_begun true x xs = refl
left_begun false x xs = begun x xs

-- one text more is written, so that one fewer is left
written : (later : Bool) (x : List ℕ) (rest : List (List ℕ)) (out next whole : List ℕ) → next ≡ out ++ (comma_if later ++ x) → out ++ left_text later (x ∷ rest) ≡ whole
    → next ++ left_text true rest ≡ whole
written later x rest out next whole e so_far =
    ap (λ t. t ++ left_text true rest) e ∙ append_assoc out (comma_if later ++ x) (left_text true rest) ∙ ap (λ t. out ++ t) (sym (left_begun later x rest)) ∙ so_far

-- the same of the item at a place
pub written_at : {X : Type 0} (text : X → List ℕ) (later : Bool) (xs : List X) (i : ℕ) (x other : X) (out next whole : List ℕ)
    → i < length xs → x ≡ get_or xs i other → next ≡ out ++ (comma_if later ++ text x)
    → out ++ left_text later (map text (drop i xs)) ≡ whole → next ++ left_text true (map text (drop (i + 1) xs)) ≡ whole
written_at text later xs i x other out next whole within is e so_far =
    let here = drop_more xs i other within ∙ ap (λ y. y ∷ drop (i + 1) xs) (sym is) in
    written later (text x) (map text (drop (i + 1) xs)) out next whole e (ap (λ ys. out ++ left_text later (map text ys)) (sym here) ∙ so_far)

-- none is left
pub all_written : {X : Type 0} (text : X → List ℕ) (later : Bool) (rest : List X) (out whole : List ℕ) → rest ≡ [] → out ++ left_text later (map text rest) ≡ whole → out ≡ whole
all_written text later rest out whole none so_far =
    sym (append-nil out) ∙ sym (ap (λ t. out ++ t) (nothing later)) ∙ ap (λ xs. out ++ left_text later (map text xs)) (sym none) ∙ so_far
  where
    nothing : (is_later : Bool) → left_text is_later [] ≡ []
    nothing true = refl
    nothing false = refl
