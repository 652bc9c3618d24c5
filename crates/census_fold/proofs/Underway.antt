-- An input whose lines are taken one after another.
use Rattle.std.proofs.Common.{arith, ◌≡◌, ℕ, ◌+◌, ◌-◌, ◌<◌, ◌≤◌, true, false, cond, [], ◌∷◌, length, Option, Some, None, IfSome, refl, sym, ap, ◌∙◌, subst}
use Rattle.std.specs.Prelude.{⊤, count_by, filter}
use Rattle.std.specs.Io.BufRead.{take_through, drop_through, DropsThrough}
use Rattle.std.specs.List.{flat_map}
use Rattle.std.specs.Str.Lines.{lines}
use Rattle.std.proofs.BufReadLemmas.{take_through-nil, take_through_nonempty}
use Rattle.oct_delta.specs.Text.{Bytes}
use Rattle.oct_ops.specs.Operations.{Operations, empty, set_of, union}
use Rattle.oct_ops.specs.OrderLaws.{op_cmp_total, op_cmp_exact}
use Rattle.oct_ops.specs.SetLaws.{union-empty}
use Rattle.census_fold.specs.Folded.{filled_lines, is_filled, is_refused, refused, taken, taken_of_line, text_of_line}
use Rattle.census_fold.proofs.LineLemmas.{lines-first, through-lengths}
use Rattle.census_state.proofs.Rounds.{from_none}
use Rattle.census_fold.proofs.Taking.{counted_next, line_next}

-- what was taken of a known input, and what is left of it, come to the whole
pub record Leads (x rest : Bytes) (ops : Operations) (refusals limit left : ℕ) : Type 0 where
  pub operations : union ops (set_of (flat_map taken_of_line (filled_lines rest))) ≡ taken x
  pub count : refusals + count_by is_refused (filled_lines rest) ≡ refused x
  pub lengths : left + length x ≡ limit + length rest

abbrev pub IsUnderway : Option Bytes → Option Bytes → Operations → ℕ → ℕ → ℕ → Type 0
IsUnderway None now ops refusals limit left = ⊤
IsUnderway (Some x) None ops refusals limit left = ⊥
IsUnderway (Some x) (Some rest) ops refusals limit left = Leads x rest ops refusals limit left

pub begun : (known : Option Bytes) (ops : Operations) (limit : ℕ) → ops ≡ empty → IsUnderway known known ops 0 limit limit
begun None ops limit none = tt
begun (Some x) ops limit none = record { operations = from_none ops (taken x) none; count = omega arith; lengths = refl }

-- ---- one line more

-- the lines that say something, by whether the first does
filled_first : (x line : Bytes) → line ≡ take_through 10 x → 0 < length line
    → filled_lines x ≡ cond (is_filled (text_of_line line)) (text_of_line line ∷ filled_lines (drop_through 10 x)) (filled_lines (drop_through 10 x))
filled_first x line is some =
    ap (filter is_filled) (lines-first x (take_through_nonempty 10 x (omega (arith, some, ap length is))) ∙ ap (λ l. text_of_line l ∷ lines (drop_through 10 x)) (sym is))

module _ (x rest line : Bytes) (ops : Operations) (refusals limit left : ℕ) (w : Leads x rest ops refusals limit left) (is : line ≡ take_through 10 rest)
    (some : 0 < length line) (fits : length line ≤ left) where
  shorter : left - length line + length x ≡ limit + length (drop_through 10 rest)
  shorter = omega (arith, fits, w.lengths, through-lengths rest, ap length is)

  -- a line that says nothing
  passed_over : is_filled (text_of_line line) ≡ false → Leads x (drop_through 10 rest) ops refusals limit (left - length line)
  passed_over unfilled =
      let next = drop_through 10 rest in
      let same = filled_first rest line is some ∙ ap (λ b. cond b (text_of_line line ∷ filled_lines next) (filled_lines next)) unfilled in
      record {
        operations = ap (λ l. union ops (set_of (flat_map taken_of_line l))) (sym same) ∙ w.operations;
        count = ap (λ l. refusals + count_by is_refused l) (sym same) ∙ w.count;
        lengths = shorter;
      }

  -- a line that was taken
  taken_first : (new : Operations) (count : ℕ) → is_filled (text_of_line line) ≡ true → new ≡ union ops (set_of (taken_of_line (text_of_line line)))
      → count ≡ cond (is_refused (text_of_line line)) (refusals + 1) refusals → Leads x (drop_through 10 rest) new count limit (left - length line)
  taken_first new count filled joined counted =
      let next = drop_through 10 rest in
      let text = text_of_line line in
      let same = filled_first rest line is some ∙ ap (λ b. cond b (text ∷ filled_lines next) (filled_lines next)) filled in
      record {
        operations =
            ap (λ s. union s (set_of (flat_map taken_of_line (filled_lines next)))) joined
            ∙ sym (line_next ops text (filled_lines next))
            ∙ ap (λ l. union ops (set_of (flat_map taken_of_line l))) (sym same)
            ∙ w.operations;
        count = counted_next refusals count text (filled_lines next) _ counted (ap (λ l. refusals + count_by is_refused l) (sym same) ∙ w.count);
        lengths = shorter;
      }

-- ---- the same, of an input that may be known

pub skipped : (known now next : Option Bytes) (line : Bytes) (ops : Operations) (refusals limit left : ℕ) → IsUnderway known now ops refusals limit left
    → IfSome now (λ x. line ≡ take_through 10 x) → DropsThrough now next 10 → 0 < length line → length line ≤ left → is_filled (text_of_line line) ≡ false
    → IsUnderway known next ops refusals limit (left - length line)
skipped None now next line ops refusals limit left w is drops some fits unfilled = tt
skipped (Some x) None next line ops refusals limit left w is drops some fits unfilled = absurd w
skipped (Some x) (Some rest) next line ops refusals limit left w is drops some fits unfilled =
    subst (λ o. IsUnderway (Some x) o ops refusals limit (left - length line)) (sym drops) (passed_over x rest line ops refusals limit left w is some fits unfilled)

pub went_on : (known now next : Option Bytes) (line : Bytes) (ops new : Operations) (refusals count limit left : ℕ) → IsUnderway known now ops refusals limit left
    → IfSome now (λ x. line ≡ take_through 10 x) → DropsThrough now next 10 → 0 < length line → length line ≤ left → is_filled (text_of_line line) ≡ true
    → new ≡ union ops (set_of (taken_of_line (text_of_line line))) → count ≡ cond (is_refused (text_of_line line)) (refusals + 1) refusals
    → IsUnderway known next new count limit (left - length line)
went_on None now next line ops new refusals count limit left w is drops some fits filled joined counted = tt
went_on (Some x) None next line ops new refusals count limit left w is drops some fits filled joined counted = absurd w
went_on (Some x) (Some rest) next line ops new refusals count limit left w is drops some fits filled joined counted =
    subst (λ o. IsUnderway (Some x) o new count limit (left - length line)) (sym drops)
    (taken_first x rest line ops refusals limit left w is some fits new count filled joined counted)

-- what a whole input comes to
abbrev pub IsWhole : ℕ → Operations → ℕ → Bytes → Type 0
IsWhole limit ops refusals x = (ops ≡ taken x) × (refusals ≡ refused x) × (length x ≤ limit)

pub ended : (known now : Option Bytes) (line : Bytes) (ops : Operations) (refusals limit left : ℕ) → IsUnderway known now ops refusals limit left
    → IfSome now (λ x. line ≡ take_through 10 x) → length line ≡ 0 → IfSome known (IsWhole limit ops refusals)
ended None now line ops refusals limit left w is none = tt
ended (Some x) None line ops refusals limit left w is none = absurd w
ended (Some x) (Some rest) line ops refusals limit left w is none =
    let nil : rest ≡ [] = take_through-nil 10 rest (ap length (sym is) ∙ none) in
    let end : Leads x [] ops refusals limit left = subst (λ r. Leads x r ops refusals limit left) nil w in
    (sym (union-empty op_cmp_total op_cmp_exact ops) ∙ end.operations, omega (arith, end.count), omega (arith, end.lengths))

pub too_long : (known now : Option Bytes) (line : Bytes) (ops : Operations) (refusals limit left : ℕ) → IsUnderway known now ops refusals limit left
    → IfSome now (λ x. line ≡ take_through 10 x) → left < length line → IfSome known (λ x. limit < length x)
too_long None now line ops refusals limit left w is more = tt
too_long (Some x) None line ops refusals limit left w is more = absurd w
too_long (Some x) (Some rest) line ops refusals limit left w is more = omega (arith, more, w.lengths, through-lengths rest, ap length is)
