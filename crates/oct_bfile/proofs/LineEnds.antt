-- The lines of a text, one after another.
use Rattle.std.proofs.Common.{◌≡◌, ◌⊎◌, inl, inr, ℕ, ◌==◌, Bool, true, false, ◌&&◌, ◌||◌, [], ◌∷◌, length, take, drop, refl, sym, ap, ◌∙◌, subst, eqb-true}
use Rattle.std.specs.Prelude.{if◌then◌else◌}
use Rattle.std.specs.List.{onto_first, position_or_len}
use Rattle.oct_text.specs.Words.{Text}
use Rattle.oct_bfile.specs.Bfile.{begins_with_feed, behind_line, end_len, ends_line, lines}
use Rattle.oct_bfile.proofs.Places.{len-no, rest_from, rest_from-drop}

-- the first line, and the lines behind its end
abbrev pub HasFirst : Text → Type 0
HasFirst bs = lines bs ≡ take (position_or_len ends_line bs) bs ∷ lines (drop (end_len (drop (position_or_len ends_line bs) bs)) (drop (position_or_len ends_line bs) bs))

lines-feed : (c : ℕ) (cs : Text) → (c == 10) ≡ true → lines (c ∷ cs) ≡ [] ∷ lines cs
lines-feed c cs feed = subst (λ x. lines (x ∷ cs) ≡ [] ∷ lines cs) (sym (eqb-true c 10 feed)) refl

at_return : (bs : Text) → HasFirst (13 ∷ bs)
at_return [] = refl
at_return (c ∷ cs) = by (c == 10) refl
  where
    by : (t : Bool) → (c == 10) ≡ t → HasFirst (13 ∷ c ∷ cs)
    by true feed =
        (λ i. if feed i then lines (c ∷ cs) else [] ∷ lines (c ∷ cs)) ∙ lines-feed c cs feed
        ∙ sym (λ i. [] ∷ lines (drop (if feed i then 2 else 1) (13 ∷ c ∷ cs)))
    by false other =
        (λ i. if other i then lines (c ∷ cs) else [] ∷ lines (c ∷ cs))
        ∙ sym (λ i. [] ∷ lines (drop (if other i then 2 else 1) (13 ∷ c ∷ cs)))

-- a byte that ends no line begins the first line
joined : (b : ℕ) (bs : Text) → (bs ≡ []) ⊎ HasFirst bs
    → onto_first b (lines bs) ≡ (b ∷ take (position_or_len ends_line bs) bs) ∷ lines (drop (end_len (drop (position_or_len ends_line bs) bs)) (drop (position_or_len ends_line bs) bs))
joined b bs (inl none) =
    subst (λ cs. onto_first b (lines cs) ≡ (b ∷ take (position_or_len ends_line cs) cs) ∷ lines (drop (end_len (drop (position_or_len ends_line cs) cs)) (drop (position_or_len ends_line cs) cs))) (sym none) refl
joined b bs (inr first) = ap (onto_first b) first

first_by : (b : ℕ) (bs : Text) (s t : Bool) → (b == 13) ≡ s → (b == 10) ≡ t → (bs ≡ []) ⊎ HasFirst bs → HasFirst (b ∷ bs)
first_by b bs true t return feed rest = subst (λ x. HasFirst (x ∷ bs)) (sym (eqb-true b 13 return)) (at_return bs)
first_by b bs false true return feed rest = subst (λ x. HasFirst (x ∷ bs)) (sym (eqb-true b 10 feed)) refl
first_by b bs false false return feed rest =
    let len = len-no ends_line b bs (λ i. feed i || return i) in
    (λ i. if return i && begins_with_feed bs then lines bs else (if feed i || return i then [] ∷ lines bs else onto_first b (lines bs)))
    ∙ joined b bs rest
    ∙ sym (λ i. take (len i) (b ∷ bs) ∷ lines (drop (end_len (drop (len i) (b ∷ bs))) (drop (len i) (b ∷ bs))))

pub lines-first : (b : ℕ) (bs : Text) → HasFirst (b ∷ bs)
lines-first b [] = first_by b [] (b == 13) (b == 10) refl refl (inl refl)
lines-first b (c ∷ cs) = first_by b (c ∷ cs) (b == 13) (b == 10) refl refl (inr (lines-first c cs))

some_first : (bs : Text) → (length bs == 0) ≡ false → HasFirst bs
some_first [] some = let never : true ≡ false = some in cc
some_first (b ∷ bs) some = lines-first b bs

-- the first line and what stands behind its end, by their lengths
pub next_line_is : (bs : Text) (n e : ℕ) → (length bs == 0) ≡ false → n ≡ position_or_len ends_line bs → e ≡ end_len (rest_from n bs) → lines bs ≡ take n bs ∷ lines (rest_from e (rest_from n bs))
next_line_is bs n e some len end =
    some_first bs some
    ∙ sym (ap (λ m. take m bs ∷ lines (drop (end_len (drop m bs)) (drop m bs))) len)
    ∙ sym (ap (λ r. take n bs ∷ lines (drop (end_len r) r)) (rest_from-drop n bs))
    ∙ sym (ap (λ l. take n bs ∷ lines l) (rest_from-drop e (rest_from n bs) ∙ ap (λ m. drop m (rest_from n bs)) end))

-- what stands behind that end
pub behind_is : (bs : Text) (n e : ℕ) → n ≡ position_or_len ends_line bs → e ≡ end_len (rest_from n bs) → rest_from e (rest_from n bs) ≡ behind_line bs
behind_is bs n e len end =
    rest_from-drop e (rest_from n bs) ∙ ap (λ m. drop m (rest_from n bs)) end
    ∙ ap (λ r. drop (end_len r) r) (rest_from-drop n bs)
    ∙ ap (λ m. drop (end_len (drop m bs)) (drop m bs)) len
