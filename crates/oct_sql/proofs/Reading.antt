-- Literals read back.
use Rattle.std.proofs.Common.{◌≡◌, ℕ, ◌==◌, Bool, true, false, [], ◌∷◌, ◌++◌, refl, sym, ap, ◌∙◌, append_assoc}
use Rattle.std.proofs.lemmas.Bool.{eqb-true}
use Rattle.std.specs.Prelude.{Some, codes, if◌then◌else◌}
use Rattle.oct_text.specs.Words.{Text}
use Rattle.oct_sql.specs.Cells.{doubled}
use Rattle.oct_sql.specs.Literals.{before, begins_with_quote, read_on, read_quote, LiteralsReadBack}

-- what stands behind the quote at the end
ended : (rest : Text) → begins_with_quote rest ≡ false → read_quote rest ≡ Some ([], rest)
ended [] none = refl
ended (b ∷ rest) none = ap (λ t. if t then before 39 (read_on rest) else Some ([], b ∷ rest)) none

-- one byte more stands before what is read
one_more : (b : ℕ) (text rest left : Text) (is_quote : Bool) → (b == 39) ≡ is_quote → read_on left ≡ Some (text, rest)
    → read_on ((if is_quote then codes "''" else b ∷ []) ++ left) ≡ Some (b ∷ text, rest)
one_more b text rest left true is so_far =
    let quote = eqb-true b 39 is in
    ap (before 39) so_far ∙ ap (λ c. Some (c ∷ text, rest)) (sym quote)
one_more b text rest left false is so_far = ap (λ t. if t then read_quote left else before b (read_on left)) is ∙ ap (before b) so_far

up_to_the_end : (text rest : Text) → begins_with_quote rest ≡ false → read_on (doubled text ++ 39 ∷ rest) ≡ Some (text, rest)
up_to_the_end [] rest none = ended rest none
up_to_the_end (b ∷ text) rest none =
    ap read_on (append_assoc (if b == 39 then codes "''" else b ∷ []) (doubled text) (39 ∷ rest))
    ∙ one_more b text rest (doubled text ++ 39 ∷ rest) (b == 39) refl (up_to_the_end text rest none)

pub literals_read : LiteralsReadBack
literals_read text rest none = ap read_on (append_assoc (doubled text) (39 ∷ []) rest) ∙ up_to_the_end text rest none
