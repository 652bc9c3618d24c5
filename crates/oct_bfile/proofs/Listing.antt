-- The lines of a b-file, as they are read one after another.
use Rattle.std.proofs.Common.{◌≡◌, ℕ, suc, ◌+◌, ◌-◌, ◌<◌, ◌≤◌, ◌==◌, Bool, true, false, not, length, arith, eqb-true, List, [], ◌∷◌, Option, Some, None, Err, refl, sym, ap, ◌∙◌}
use Rattle.std.specs.Option.{option_or}
use Rattle.std.specs.Prelude.{nat_le, if◌then◌else◌}
use Rattle.oct_code.specs.declared.limits.TheConstants.{LIMIT}
use Rattle.oct_bfile.specs.Bfile.{checked_by, file_by, first_fault, row_fault, start_of, values_of}
use Rattle.oct_bfile.specs.declared.bfile_error.BfileError.{BfileError}
use Rattle.oct_bfile.specs.declared.bfile_error.BfileError.TheVariants.{Form, Order, PastLimit}
use Rattle.oct_bfile.specs.declared.bfile_line.BfileLine.{BfileLine}
use Rattle.oct_bfile.specs.declared.bfile_line.BfileLine.TheVariants.{Row, Skipped, Faulty}

-- the rows so far, which are those of `all` but the last `left`, have numbers one after another, below the limit, and the next
-- one's is due
abbrev pub Placed : Option ℕ → Option ℕ → ℕ → ℕ → Type 0
Placed None due all left = (due ≡ None) × (left ≡ all)
Placed (Some s) due all left = (due ≡ Some (s + (all - left))) × (left < all) × (s + (all - left) ≤ LIMIT)

-- what the lines before the last ones said, the first of which has this place
pub record Reading (all left : List BfileLine) (line : ℕ) (start due : Option ℕ) : Type 0 where
  pub fault : first_fault 1 None all ≡ first_fault line due left
  pub start_is : start_of all ≡ option_or start (start_of left)
  pub placed : Placed start due (length (values_of all)) (length (values_of left))

pub reading_begins : (all left : List BfileLine) → left ≡ all → Reading all left 1 None None
reading_begins all left is = record { fault = ap (first_fault 1 None) (sym is); start_is = ap start_of (sym is); placed = (refl, ap (λ l. length (values_of l)) is) }

pub reading_skipped : (all left : List BfileLine) (line : ℕ) (start due : Option ℕ) → Reading all (Skipped ∷ left) line start due → Reading all left (line + 1) start due
reading_skipped all left line start due so_far = record { fault = so_far.fault; start_is = so_far.start_is; placed = so_far.placed }

or_next : (start : Option ℕ) (n : ℕ) (later : Option ℕ) → option_or start (Some n) ≡ option_or (option_or start (Some n)) later
or_next None n later = refl
or_next (Some s) n later = refl

follows_is : (due n : ℕ) (line : ℕ) → row_fault line (Some due) n ≡ None → n ≡ due
follows_is due n line none = by (n == due) refl
  where
    by : (t : Bool) → (n == due) ≡ t → n ≡ due
    by true same = eqb-true n due same
    by false other = let refused : row_fault line (Some due) n ≡ Some (Order line) = (λ i. if not (other i) then Some (Order line) else (if nat_le LIMIT n then Some (PastLimit line) else None)) in cc

placed_row : (line : ℕ) (start due : Option ℕ) (all left n : ℕ) → row_fault line due n ≡ None → n < LIMIT → left < all → Placed start due all (suc left) → Placed (option_or start (Some n)) (Some (n + 1)) all left
placed_row line None due all left n none small more so_far = (ap (λ k. Some (n + k)) (omega (arith, so_far.1)), more, omega (arith, so_far.1))
placed_row line (Some s) due all left n none small more so_far =
    let is : n ≡ s + (all - suc left) = follows_is (s + (all - suc left)) n line (ap (λ d. row_fault line d n) (sym so_far.0) ∙ none) in
    let due_is : n + 1 ≡ s + (all - left) = omega (arith, is, so_far.1) in
    (ap Some due_is, more, omega (arith, due_is, small))

placed_left : (start due : Option ℕ) (all left : ℕ) → Placed start due all (suc left) → left < all
placed_left None due all left so_far = omega (arith, so_far.1)
placed_left (Some s) due all left so_far = omega (arith, so_far.1)

pub reading_row : (all left : List BfileLine) (line : ℕ) (start due : Option ℕ) (n v : ℕ) → row_fault line due n ≡ None → n < LIMIT → Reading all (Row n v ∷ left) line start due
    → Reading all left (line + 1) (option_or start (Some n)) (Some (n + 1))
reading_row all left line start due n v none small so_far =
    let total = length (values_of all) in
    let rest = length (values_of left) in
    record {
      fault = so_far.fault ∙ ap (λ f. elim f [ Some fault ↦ Some fault | None ↦ first_fault (line + 1) (Some (n + 1)) left ]) none;
      start_is = so_far.start_is ∙ or_next start n (start_of left);
      placed = placed_row line start due total rest n none small (placed_left start due total rest so_far.placed) so_far.placed;
    }

pub reading_faulty : (all left : List BfileLine) (line : ℕ) (start due : Option ℕ) → Reading all (Faulty ∷ left) line start due → checked_by (first_fault 1 None all) all ≡ Err (Form line)
reading_faulty all left line start due so_far = ap (λ f. checked_by f all) so_far.fault

pub reading_refused : (all left : List BfileLine) (line : ℕ) (start due : Option ℕ) (n v : ℕ) (e : BfileError) → row_fault line due n ≡ Some e → Reading all (Row n v ∷ left) line start due → checked_by (first_fault 1 None all) all ≡ Err e
reading_refused all left line start due n v e refused so_far =
    ap (λ f. checked_by f all) (so_far.fault ∙ ap (λ f. elim f [ Some fault ↦ Some fault | None ↦ first_fault (line + 1) (Some (n + 1)) left ]) refused)

or_none : (start : Option ℕ) → option_or start None ≡ start
or_none None = refl
or_none (Some s) = refl

pub reading_done : (all left : List BfileLine) (line : ℕ) (start due : Option ℕ) → left ≡ [] → Reading all left line start due → checked_by (first_fault 1 None all) all ≡ file_by start (values_of all)
reading_done all left line start due end so_far =
    ap (λ f. checked_by f all) (so_far.fault ∙ ap (first_fault line due) end)
    ∙ ap (λ s. file_by s (values_of all)) (so_far.start_is ∙ ap (λ l. option_or start (start_of l)) end ∙ or_none start)
