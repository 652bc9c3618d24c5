-- A text that is written piece by piece.
use Rattle.std.proofs.Common.{◌≡◌, ◌+◌, ◌<◌, ℕ, List, [], ◌++◌, Option, length, take, drop, get_or, refl, sym, ap, subst, ◌∙◌, append_assoc, append-nil, take-append-drop}
use Rattle.std.proofs.KnownBytes.{Appends-trans}
use Rattle.std.proofs.lemmas.List.{drop_more, take_at}
use Rattle.std.specs.Io.KnownBytes.{Appends}
use Rattle.written.specs.Output.{AppendsPrefix}
use Rattle.oct_bfile.specs.Bfile.{row_text, rows_text}

-- what is written is a front of the text
pub front_written : (old new : Option (List ℕ)) (written rest text : List ℕ) → Appends old new written → written ++ rest ≡ text → AppendsPrefix old new text
front_written old new written rest text appended whole =
    (length written, subst (Appends old new) (sym (ap (take (length written)) (sym whole) ∙ take_at written rest (length written) refl)) appended)

-- and so it is where the writer fails within a piece
pub piece_broken : (old mid new : Option (List ℕ)) (written piece rest text : List ℕ) → Appends old mid written → AppendsPrefix mid new piece → written ++ piece ++ rest ≡ text
    → AppendsPrefix old new text
piece_broken old mid new written piece rest text appended broken whole =
    let front = take broken.0 piece in
    let back = drop broken.0 piece in
    front_written old new (written ++ front) (back ++ rest) text (Appends-trans old mid new written front appended broken.1)
    (sym (append_assoc (written ++ front) back rest) ∙ ap (λ t. t ++ rest) (append_assoc written front back ∙ ap (λ t. written ++ t) (take-append-drop broken.0 piece)) ∙ whole)

-- the next line at the end of a piece
pub row_more : (written piece next values text : List ℕ) (i value : ℕ) → i < length values → value ≡ get_or values i 0 → next ≡ piece ++ row_text i value
    → written ++ piece ++ rows_text i (drop i values) ≡ text → written ++ next ++ rows_text (i + 1) (drop (i + 1) values) ≡ text
row_more written piece next values text i value within is grown whole =
    let row = row_text i value in
    let rest = rows_text (i + 1) (drop (i + 1) values) in
    let opens : rows_text i (drop i values) ≡ row ++ rest = ap (rows_text i) (drop_more values i 0 within) ∙ ap (λ v. row_text i v ++ rest) (sym is) in
    ap (λ t. written ++ t ++ rest) grown ∙ ap (λ t. t ++ rest) (sym (append_assoc written piece row)) ∙ append_assoc (written ++ piece) row rest
    ∙ ap (λ t. written ++ piece ++ t) (sym opens) ∙ whole

-- a piece that is written and emptied
pub piece_written : (written piece rest text : List ℕ) → written ++ piece ++ rest ≡ text → (written ++ piece) ++ [] ++ rest ≡ text
piece_written written piece rest text whole = ap (λ t. t ++ rest) (append-nil (written ++ piece)) ∙ whole
