-- Codes that are read one after another, and items that are taken.
use Rattle.std.proofs.Common.{arith, ◌≡◌, ℕ, zero, suc, ◌+◌, ◌-◌, ◌<◌, ◌≤◌, refl, add-one, get_or, Some, None, Result, Ok, Err, List, [], ◌∷◌, ◌++◌, drop, length, sym, ap, ◌∙◌, append_assoc}
use Rattle.std.proofs.Math.Seq.{drop-cons}
use Rattle.std.specs.List.{before_first}
use Rattle.oct_code.specs.Code.{Code}
use Rattle.oct_code.specs.CodeText.{IsCodeText}
use Rattle.oct_code.specs.TextFaults.{around_point, code_of_parts, text_fault}
use Rattle.oct_code.proofs.CodeLaws.{read-is}
use Rattle.oct_code.specs.declared.error.CodeError.{CodeError}
use Rattle.oct_text.specs.Words.{Text}
use Rattle.oct_bfile.specs.Bfile.{lines, words}
use Rattle.census_codes.specs.Codes.{begins_comment, code_of, lines_onto, then, unless, words_onto}
use Rattle.census_codes.specs.Parts.{each_nth}
use Rattle.census_codes.specs.declared.error.CodesError.{CodesError}
use Rattle.census_codes.specs.declared.error.CodesError.TheVariants.{NoCode}

pub code_there : (line : ℕ) (word : Text) (code : Code) → IsCodeText word code → text_fault word ≡ None → code_of line word ≡ Ok code
code_there line word code spelled none = ap (λ fault. unless line fault (code_of_parts (around_point word))) none ∙ ap Ok (read-is word code spelled)

pub code_missing : (line : ℕ) (word : Text) (cause : CodeError) → text_fault word ≡ Some cause → code_of line word ≡ Err (NoCode line cause)
code_missing line word cause fault = ap (λ f. unless line f (code_of_parts (around_point word))) fault

-- the next word is read
pub word_read : (line : ℕ) (list : List Code) (text word rest : Text) (code : Code) (total : Result (List Code) CodesError) → words text ≡ word ∷ words rest → code_of line word ≡ Ok code
    → words_onto line list (words text) ≡ total → words_onto line (list ++ code ∷ []) (words rest) ≡ total
word_read line list text word rest code total splits read all =
    sym (ap (words_onto line list) splits ∙ ap (then (λ c. words_onto line (list ++ c ∷ []) (words rest))) read) ∙ all

pub word_refused : (line : ℕ) (list : List Code) (text word rest : Text) (e : CodesError) (total : Result (List Code) CodesError) → words text ≡ word ∷ words rest → code_of line word ≡ Err e
    → words_onto line list (words text) ≡ total → total ≡ Err e
word_refused line list text word rest e total splits refused all =
    sym all ∙ ap (words_onto line list) splits ∙ ap (then (λ c. words_onto line (list ++ c ∷ []) (words rest))) refused

-- the next line is read
pub line_read : (place : ℕ) (list more : List Code) (text line said rest : Text) (total : Result (List Code) CodesError) → lines text ≡ line ∷ lines rest → said ≡ before_first begins_comment line
    → words_onto place list (words said) ≡ Ok more → lines_onto place list (lines text) ≡ total → lines_onto (place + 1) more (lines rest) ≡ total
line_read place list more text line said rest total splits cut read all =
    sym (ap (lines_onto place list) splits
    ∙ ap (then (λ m. lines_onto (place + 1) m (lines rest))) (ap (λ s. words_onto place list (words s)) (sym cut) ∙ read)) ∙ all

pub line_refused : (place : ℕ) (list : List Code) (text line said rest : Text) (e : CodesError) (total : Result (List Code) CodesError) → lines text ≡ line ∷ lines rest → said ≡ before_first begins_comment line
    → words_onto place list (words said) ≡ Err e → lines_onto place list (lines text) ≡ total → total ≡ Err e
line_refused place list text line said rest e total splits cut refused all =
    sym all ∙ ap (lines_onto place list) splits
    ∙ ap (then (λ m. lines_onto (place + 1) m (lines rest))) (ap (λ s. words_onto place list (words s)) (sym cut) ∙ refused)

-- the first of those that are left
pub next_item : {V : Type 0} (items : List V) (i : ℕ) (item : V) → i < length items → item ≡ get_or items i item → drop i items ≡ item ∷ drop (i + 1) items
next_item items i item within is = rw add-one (drop-cons items i item within ∙ ap (λ f. f ∷ drop (suc i) items) (sym is))

-- ---- every n-th item

each_nth-later : {X : Type 0} (n before : ℕ) (x : X) (xs : List X) → 0 < before → each_nth n before (x ∷ xs) ≡ each_nth n (before - 1) xs
each_nth-later n zero x xs some = absurd (omega arith)
each_nth-later n (suc before) x xs some = ap (λ k. each_nth n k xs) (omega arith)

each_nth-now : {X : Type 0} (n before : ℕ) (x : X) (xs : List X) → before ≤ 0 → each_nth n before (x ∷ xs) ≡ x ∷ each_nth n (n - 1) xs
each_nth-now n zero x xs none = refl
each_nth-now n (suc before) x xs none = absurd (omega arith)

pub skipped : {X : Type 0} (n before : ℕ) (items : List X) (i : ℕ) (item : X) (front : List X) → i < length items → item ≡ get_or items i item → 0 < before
    → front ++ each_nth n (before - 1) (drop (i + 1) items) ≡ front ++ each_nth n before (drop i items)
skipped n before items i item front within is some =
    sym (ap (λ l. front ++ each_nth n before l) (next_item items i item within is) ∙ ap (λ l. front ++ l) (each_nth-later n before item (drop (i + 1) items) some))

pub dealt : {X : Type 0} (n before : ℕ) (items : List X) (i : ℕ) (item : X) (front more : List X) → i < length items → item ≡ get_or items i item → before ≤ 0 → more ≡ front ++ item ∷ []
    → more ++ each_nth n (n - 1) (drop (i + 1) items) ≡ front ++ each_nth n before (drop i items)
dealt n before items i item front more within is none grown =
    ap (λ l. l ++ each_nth n (n - 1) (drop (i + 1) items)) grown ∙ append_assoc front (item ∷ []) (each_nth n (n - 1) (drop (i + 1) items))
    ∙ sym (ap (λ l. front ++ each_nth n before l) (next_item items i item within is) ∙ ap (λ l. front ++ l) (each_nth-now n before item (drop (i + 1) items) none))
