-- The lines of wrong values, as they are gone over one after another, and that they are those of the command.
use Rattle.std.proofs.Common.{arith, ◌≡◌, ◌≢◌, ℕ, zero, suc, ◌+◌, ◌-◌, ◌<◌, ◌≤◌, ◌==◌, nat_lt, true, false, cond, Result, Ok, Err, List, [], ◌∷◌, ◌++◌, length, map, take, drop, get_or, refl, sym, ap, subst, subst₂, ◌∙◌, add-one, append-nil, append_assoc}
use Rattle.std.proofs.Math.Seq.{drop-cons}
use Rattle.std.proofs.lemmas.Bool.{eq-eqb, le-ltb, lt-ltb, ne_eqb}
use Rattle.std.proofs.lemmas.List.{drop_all, flat_map_more, length-append, take-append-le, take_all}
use Rattle.std.specs.List.{flat_map}
use Rattle.oct_code.specs.Code.{Code}
use Rattle.oct_mex.specs.NimValues.{nim_value}
use Rattle.oct_text.specs.Words.{Text}
use Rattle.oct_bfile.specs.Bfile.{Bfile, bfile_of}
use Rattle.oct_bfile.specs.declared.bfile_error.BfileError.{BfileError}
use Rattle.oct_code.specs.declared.error.CodeError.{CodeError}
use Rattle.oct_delta.specs.Text.{Bytes}
use Rattle.census_state.specs.Codes.{read_code}
use Rattle.census_state.specs.Steps.{◌>>=◌, because}
use Rattle.census_state.specs.declared.fault.Fault.TheVariants as fault
use Rattle.census_state.specs.declared.input.TheConstants.{INPUT_LIMIT}
use Rattle.census_judge.specs.Checking.{check, more_text, right_text, verdict, wrong_line, wrong_values}
use Rattle.page.specs.Answers.{checked}
use Rattle.page.specs.Telling.{Answer}
use Rattle.page.specs.Checked.{IsSeen, checked_lines, joined, line_of, wrong_lines}
use Rattle.page.specs.declared.checking.TheConstants.{SHOWN}

-- ---- what is left of the values

module _ (c : Code) (start : ℕ) (claimed : List ℕ) where
  -- those from a place on that are wrong
  abbrev pub wrong_from : ℕ → List Text
  wrong_from i = wrong_lines c (start + i) (drop i claimed)

  opens : (i v : ℕ) → i < length claimed → v ≡ get_or claimed i 0 → wrong_from i ≡ wrong_lines c (start + i) (v ∷ drop (i + 1) claimed)
  opens i v within is =
      let there : drop i claimed ≡ v ∷ drop (i + 1) claimed = rw add-one (drop-cons claimed i 0 within ∙ ap (λ f. f ∷ drop (suc i) claimed) (sym is)) in
      ap (wrong_lines c (start + i)) there

  after : (i : ℕ) → wrong_lines c (start + i + 1) (drop (i + 1) claimed) ≡ wrong_from (i + 1)
  after i = ap (λ n. wrong_lines c n (drop (i + 1) claimed)) (let e : start + i + 1 ≡ start + (i + 1) = omega arith in e)

  pub right_there : (i v : ℕ) → i < length claimed → v ≡ get_or claimed i 0 → v ≡ nim_value c (start + i) → wrong_from i ≡ wrong_from (i + 1)
  right_there i v within is right =
      let later = wrong_lines c (start + i + 1) (drop (i + 1) claimed) in
      opens i v within is ∙ ap (λ b. cond b later (line_of (start + i) v (nim_value c (start + i)) ∷ later)) (eq-eqb v (nim_value c (start + i)) right) ∙ after i

  pub wrong_there : (i v : ℕ) → i < length claimed → v ≡ get_or claimed i 0 → v ≢ nim_value c (start + i) → wrong_from i ≡ line_of (start + i) v (nim_value c (start + i)) ∷ wrong_from (i + 1)
  wrong_there i v within is wrong =
      let later = wrong_lines c (start + i + 1) (drop (i + 1) claimed) in
      opens i v within is ∙ ap (λ b. cond b later (line_of (start + i) v (nim_value c (start + i)) ∷ later)) (ne_eqb v (nim_value c (start + i)) wrong) ∙ ap (λ l. line_of (start + i) v (nim_value c (start + i)) ∷ l) (after i)

  pub wrong_first : wrong_from 0 ≡ wrong_lines c start claimed
  wrong_first = ap (λ n. wrong_lines c n claimed) (let e : start + 0 ≡ start = omega arith in e)

  pub none_left : (i : ℕ) → length claimed ≤ i → wrong_from i ≡ []
  none_left i past = ap (wrong_lines c (start + i)) (drop_all i claimed past)

-- ---- what was seen

-- some were seen, and the rest are left
pub record SeenSoFar (all rest : List Text) (old new : Text) (count : ℕ) : Type 0 where
  pub seen : List Text
  pub whole : seen ++ rest ≡ all
  pub lines : IsSeen seen old new count

pub seen_none : (all rest : List Text) (text : Text) → rest ≡ all → SeenSoFar all rest text text 0
seen_none all rest text is = record { seen = []; whole = is; lines = record { text = sym (append-nil text); count_is = refl } }

pub seen_same : (all rest next : List Text) (old new : Text) (count : ℕ) → rest ≡ next → SeenSoFar all rest old new count → SeenSoFar all next old new count
seen_same all rest next old new count is so_far = subst (λ r. SeenSoFar all r old new count) is so_far

-- the same, as the text and the number are called later
pub seen_as : (all rest : List Text) (old new later : Text) (count more : ℕ) → later ≡ new → more ≡ count → SeenSoFar all rest old new count → SeenSoFar all rest old later more
seen_as all rest old new later count more text number so_far = subst₂ (λ t n. SeenSoFar all rest old t n) (sym text) (sym number) so_far

module _ (all next : List Text) (w : Text) (old new : Text) (count : ℕ) (so_far : SeenSoFar all (w ∷ next) old new count) where
  whole_more : (so_far.seen ++ w ∷ []) ++ next ≡ all
  whole_more = append_assoc so_far.seen (w ∷ []) next ∙ so_far.whole

  count_more : count + 1 ≡ length (so_far.seen ++ w ∷ [])
  count_more = omega (arith, so_far.lines.count_is, length-append so_far.seen (w ∷ []))

  -- one more, whose line is appended
  pub seen_shown : (grown : Text) → count < SHOWN → grown ≡ new ++ w → SeenSoFar all next old grown (count + 1)
  seen_shown grown few is =
      let seen = so_far.seen in
      let size : length seen ≡ count = sym so_far.lines.count_is in
      let more : length (seen ++ w ∷ []) ≤ SHOWN = omega (arith, length-append seen (w ∷ []), size, few) in
      record {
        seen = seen ++ w ∷ [];
        whole = whole_more;
        lines = record {
          text =
              is ∙ ap (λ t. t ++ w) (so_far.lines.text ∙ ap (λ l. old ++ joined l) (take_all SHOWN seen (omega (arith, size, few))))
              ∙ flat_map_more (λ (l : Text). l) old seen w ∙ ap (λ l. old ++ joined l) (sym (take_all SHOWN (seen ++ w ∷ []) more));
          count_is = count_more;
        };
      }

  -- one more, which is counted alone
  pub seen_counted : SHOWN ≤ count → SeenSoFar all next old new (count + 1)
  seen_counted many =
      let seen = so_far.seen in
      record {
        seen = seen ++ w ∷ [];
        whole = whole_more;
        lines = record {
          text = so_far.lines.text ∙ ap (λ l. old ++ joined l) (sym (take-append-le SHOWN seen (w ∷ []) (omega (arith, so_far.lines.count_is, many))));
          count_is = count_more;
        };
      }

pub seen_all : (all rest : List Text) (old new : Text) (count : ℕ) → rest ≡ [] → SeenSoFar all rest old new count → IsSeen all old new count
seen_all all rest old new count none so_far =
    subst (λ l. IsSeen l old new count) (sym (append-nil so_far.seen) ∙ ap (λ r. so_far.seen ++ r) (sym none) ∙ so_far.whole) so_far.lines

-- ---- the lines are those of the command

lines_are : (c : Code) (heap : ℕ) (claimed : List ℕ) → map wrong_line (wrong_values c heap claimed) ≡ wrong_lines c heap claimed
lines_are c heap [] = refl
lines_are c heap (v ∷ vs) =
    let line = line_of heap v (nim_value c heap) in
    elim (v == nim_value c heap) as (λ b. map wrong_line (cond b (wrong_values c (heap + 1) vs) (record { heap = heap; claimed = v; right = nim_value c heap } ∷ wrong_values c (heap + 1) vs)) ≡ cond b (wrong_lines c (heap + 1) vs) (line ∷ wrong_lines c (heap + 1) vs)) [
      | true ↦ lines_are c (heap + 1) vs
      | false ↦ ap (λ l. line ∷ l) (lines_are c (heap + 1) vs)
    ]

module _ {X : Type 0} (f : X → Text) where
  joined_map : (xs : List X) → joined (map f xs) ≡ flat_map f xs
  joined_map [] = refl
  joined_map (x ∷ xs) = ap (λ t. f x ++ t) (joined_map xs)

  take_map : (n : ℕ) (xs : List X) → take n (map f xs) ≡ map f (take n xs)
  take_map zero xs = refl
  take_map (suc n) [] = refl
  take_map (suc n) (x ∷ xs) = ap (λ l. f x ∷ l) (take_map n xs)

  size_map : (xs : List X) → length (map f xs) ≡ length xs
  size_map [] = refl
  size_map (x ∷ xs) = ap suc (size_map xs)

  -- what is said of so many values, by the wrong ones in place of their lines
  abbrev by_items : ℕ → List X → Text
  by_items count xs = cond (length xs == 0) (right_text count) (cond (nat_lt SHOWN (length xs)) (flat_map f (take SHOWN xs) ++ more_text (length xs - SHOWN)) (flat_map f xs))

  said_same : (count : ℕ) (xs : List X) → checked_lines count (map f xs) ≡ by_items count xs
  said_same count xs =
      let first = ap joined (take_map SHOWN xs) ∙ joined_map (take SHOWN xs) in
      λ i. cond (size_map xs i == 0) (right_text count) (cond (nat_lt SHOWN (size_map xs i)) (first i ++ more_text (size_map xs i - SHOWN)) (joined_map xs i))

-- the lines say what the command prints
pub lines_told : (c : Code) (file : Bfile) → checked_lines (length file.values) (wrong_lines c file.start file.values) ≡ (verdict c file).text
lines_told c file =
    ap (checked_lines (length file.values)) (sym (lines_are c file.start file.values)) ∙ said_same wrong_line (length file.values) (wrong_values c file.start file.values)

-- ---- what is said of the lines that were seen

module _ (count : ℕ) (lines : List Text) (old text : Text) (wrong : ℕ) (seen : IsSeen lines old text wrong) (empty : old ≡ []) where
  abbrev first : Text
  first = joined (take SHOWN lines)

  shown : text ≡ first
  shown = seen.text ∙ ap (λ o. o ++ first) empty

  -- there are some
  filled : 1 ≤ wrong → checked_lines count lines ≡ cond (nat_lt SHOWN (length lines)) (first ++ more_text (length lines - SHOWN)) (joined lines)
  filled some =
      ap (λ b. cond b (right_text count) (cond (nat_lt SHOWN (length lines)) (first ++ more_text (length lines - SHOWN)) (joined lines)))
      (ne_eqb (length lines) 0 (λ none. omega (arith, none, some, seen.count_is)))

  pub said_more : (new : Text) → SHOWN < wrong → new ≡ text ++ more_text (wrong - SHOWN) → new ≡ checked_lines count lines
  said_more new many is =
      is ∙ (λ i. shown i ++ more_text (seen.count_is i - SHOWN))
      ∙ sym (filled (omega (arith, many)) ∙ ap (λ b. cond b (first ++ more_text (length lines - SHOWN)) (joined lines)) (lt-ltb SHOWN (length lines) (omega (arith, many, seen.count_is))))

  pub said_all : 1 ≤ wrong → wrong ≤ SHOWN → text ≡ checked_lines count lines
  said_all some few =
      shown ∙ ap joined (take_all SHOWN lines (omega (arith, few, seen.count_is)))
      ∙ sym (filled some ∙ ap (λ b. cond b (first ++ more_text (length lines - SHOWN)) (joined lines)) (le-ltb SHOWN (length lines) (omega (arith, few, seen.count_is))))

pub said_right : (count : ℕ) (lines : List Text) (old text new : Text) (wrong : ℕ) → IsSeen lines old text wrong → old ≡ [] → wrong ≡ 0 → new ≡ text ++ right_text count → new ≡ checked_lines count lines
said_right count [] old text new wrong seen empty none is = is ∙ ap (λ t. t ++ right_text count) (seen.text ∙ ap (λ o. o ++ []) empty)
said_right count (l ∷ ls) old text new wrong seen empty none is = absurd (omega (arith, seen.count_is, none))

-- ---- the answer of the command

pub checked_told : (word file : Bytes) (c : Code) (f : Bfile) (text : Text) → length file ≤ INPUT_LIMIT → read_code word ≡ Ok c → bfile_of file ≡ Ok f
    → text ≡ checked_lines (length f.values) (wrong_lines c f.start f.values) → Ok text ≡ checked word file
checked_told word file c f text fits code read says =
    let told : Answer = check word file >>= λ done. Ok done.text in
    let long : Answer = Err fault.TooLong in
    sym (ap (λ b. cond b long told) (le-ltb INPUT_LIMIT (length file) fits)
    ∙ ap (λ (r : Result Code CodeError). (because fault.Code r >>= λ d. (because fault.Bfile (bfile_of file) >>= λ g. Ok (verdict d g))) >>= λ done. Ok done.text) code
    ∙ ap (λ (r : Result Bfile BfileError). (because fault.Bfile r >>= λ g. Ok (verdict c g)) >>= λ done. Ok done.text) read
    ∙ ap Ok (sym (says ∙ lines_told c f)))
