-- The operations of the lines, taken in one list after another.
use Rattle.std.proofs.Common.{arith, ◌≡◌, ◌↔◌, ◌≤◌, ◌+◌, ℕ, Bool, true, false, List, [], ◌∷◌, ◌++◌, cond, Option, None, Result, Err, IsSome, sym, ap, ◌∙◌}
use Rattle.std.specs.Prelude.{⊤, count_by, is_none, unwrap_or}
use Rattle.std.specs.Result.{IsErrOf}
use Rattle.std.proofs.lemmas.List.Sums.{sum_by-cons}
use Rattle.std.specs.List.{flat_map}
use Rattle.oct_delta.specs.Bytes.{IsBytes}
use Rattle.oct_delta.specs.Decoding.{format_at, read_as, read_delta}
use Rattle.oct_delta.specs.Delta.{IsDeltaText}
use Rattle.oct_delta.specs.Taken.{operations_of, set_of_read}
use Rattle.oct_delta.specs.Text.{Bytes}
use Rattle.oct_delta.proofs.Deltas.{Law, read_none}
use Rattle.oct_ops.specs.Body.{Operation}
use Rattle.oct_ops.specs.Operations.{Operations, empty, insert, set_of, union}
use Rattle.oct_ops.specs.OrderLaws.{op_cmp_total, op_cmp_exact}
use Rattle.oct_ops.specs.SetLaws.{union-empty, union-insert_left, union_assoc, union_comm}
use Rattle.oct_record.specs.declared.error.TakeError.{TakeError}
use Rattle.oct_record.specs.declared.error.TakeError.TheVariants.{Version, Refused, OutOfMemory}
use Rattle.census_state.specs.Holdings.{LeavesAt}
use Rattle.census_fold.specs.Folded.{is_refused, operations_of_line, taken_of_line}

union_none : (s : Operations) → union s (set_of []) ≡ s
union_none s = union-empty op_cmp_total op_cmp_exact s

pub set_of-append : (xs ys : List Operation) → set_of (xs ++ ys) ≡ union (set_of xs) (set_of ys)
set_of-append [] ys = sym (union_comm op_cmp_total op_cmp_exact empty (set_of ys) ∙ union_none (set_of ys))
set_of-append (x ∷ xs) ys = ap (λ s. insert s x) (set_of-append xs ys) ∙ sym (union-insert_left op_cmp_total op_cmp_exact (set_of xs) (set_of ys) x)

-- one line more
pub line_next : (s : Operations) (line : Bytes) (rest : List Bytes)
    → union s (set_of (flat_map taken_of_line (line ∷ rest))) ≡ union (union s (set_of (taken_of_line line))) (set_of (flat_map taken_of_line rest))
line_next s line rest =
    ap (union s) (set_of-append (taken_of_line line) (flat_map taken_of_line rest))
    ∙ sym (union_assoc op_cmp_total op_cmp_exact s (set_of (taken_of_line line)) (set_of (flat_map taken_of_line rest)))

-- ---- one line

-- a line that spells nothing leaves the set, and is counted
pub untaken : (s : Operations) (line : Bytes) → operations_of_line line ≡ None → s ≡ union s (set_of (taken_of_line line))
untaken s line none = sym (union_none s) ∙ ap (λ (m : Option (List Operation)). union s (set_of (unwrap_or m []))) (sym none)

pub refused_once : (line : Bytes) (n : ℕ) → operations_of_line line ≡ None → n + 1 ≡ cond (is_refused line) (n + 1) n
refused_once line n none = ap (λ (m : Option (List Operation)). cond (is_none m) (n + 1) n) (sym none)

-- the two answers for bytes that are no delta
abbrev pub IsNoDelta : TakeError → Type 0
IsNoDelta Version = ⊤
IsNoDelta Refused = ⊤
IsNoDelta (OutOfMemory done) = ⊥

-- bytes that begin with no tag, or are no text, spell nothing
pub nothing_read : Law → (bytes : Bytes) → IsBytes bytes → (r : Result ℕ TakeError) → (e : TakeError) → r ≡ Err e → IsNoDelta e
    → IsErrOf r Version ↔ (format_at bytes ≡ None) → IsErrOf r Refused ↔ (IsSome (format_at bytes) × ((ops : List Operation) → ¬ IsDeltaText bytes ops))
    → read_delta bytes ≡ None
nothing_read law bytes are r Version is told version refused = ap (λ f. read_as f bytes) (version.0 is)
nothing_read law bytes are r Refused is told version refused = read_none law bytes are ((refused.0 is).1)
nothing_read law bytes are r (OutOfMemory done) is told version refused = absurd told

pub unchanged : (old new : Operations) (list : List Operation) (e : TakeError) → IsNoDelta e → LeavesAt old new list e → new ≡ old
unchanged old new list Version told left = left
unchanged old new list Refused told left = left
unchanged old new list (OutOfMemory done) told left = absurd told

-- where nothing is read, nothing is taken
pub none_of : (s : Operations) (bytes : Bytes) → read_delta bytes ≡ None → s ≡ union s (operations_of bytes)
none_of s bytes none = sym (union_none s) ∙ ap (λ (m : Option (List Operation)). union s (set_of_read m)) (sym none)

-- the count after the line, by whether it was refused
counted_by : (t : Bool) (old new count total : ℕ) → new ≡ cond t (old + 1) old → old + (cond t 1 0 + count) ≡ total → new + count ≡ total
counted_by true old new count total e f = omega (arith, e, f)
counted_by false old new count total e f = omega (arith, e, f)

pub counted_next : (old new : ℕ) (line : Bytes) (rest : List Bytes) (total : ℕ) → new ≡ cond (is_refused line) (old + 1) old
    → old + count_by is_refused (line ∷ rest) ≡ total → new + count_by is_refused rest ≡ total
counted_next old new line rest total e f =
    counted_by (is_refused line) old new (count_by is_refused rest) total e (sym (ap (λ n. old + n) (sum_by-cons (λ l. cond (is_refused l) 1 0) line rest)) ∙ f)

pub at_most_one_more : (t : Bool) (old new : ℕ) → new ≡ cond t (old + 1) old → new ≤ old + 1
at_most_one_more true old new e = omega (arith, e)
at_most_one_more false old new e = omega (arith, e)
