-- Delta files that are taken one after another.
use Rattle.std.proofs.Common.{rules, ◌≡◌, ℕ, ◌+◌, ◌≤◌, true, cond, List, [], ◌∷◌, map, length, drop, Option, Some, None, Result, Err, inl, inr, refl, sym, ap, subst, ◌∙◌}
use Rattle.std.specs.Prelude.{◌↔◌, IsErrOf, IsSome, is_none, is_some}
use Rattle.std.specs.List.{All, AllByRecursion}
use Rattle.std.proofs.lemmas.Bool.{or_cases}
use Rattle.std.proofs.lemmas.List.{drop_all}
use Rattle.std.proofs.lemmas.List.Elements.{All-from_recursion, recursion_from_All}
use Rattle.oct_delta.specs.Bytes.{IsBytes}
use Rattle.oct_delta.specs.Decoding.{format_at, read_delta}
use Rattle.oct_delta.specs.Delta.{Format, IsDeltaText}
use Rattle.oct_delta.specs.Taken.{operations_of, operations_of_all, set_of_read}
use Rattle.oct_delta.specs.Text.{Bytes}
use Rattle.oct_delta.proofs.Deltas.{Law, text_rising}
use Rattle.oct_ops.specs.Body.{Operation}
use Rattle.oct_ops.specs.Operations.{Operations, contains, empty, listed, set_of, union}
use Rattle.oct_ops.specs.OrderLaws.{op_cmp_total, op_cmp_exact}
use Rattle.oct_ops.specs.SetLaws.{contains-union, listed-set_of, union-empty, union_assoc}
use Rattle.oct_ops.specs.Valid.{IsOp}
use Rattle.oct_record.specs.Valid.{AreValid}
use Rattle.oct_record.specs.declared.error.TakeError.{TakeError}
use Rattle.oct_record.specs.declared.error.TakeError.TheVariants.{Version, Refused, OutOfMemory}
use Rattle.oct_ops.proofs.Members.{Has-empty, Has-listed, In, In-listed, all_in}
use Rattle.census_fold.specs.Deltas.{delta_of}
use Rattle.census_state.specs.States.{delta_refusal}
use Rattle.census_state.specs.Steps.{◌>>=◌, unless}
use Rattle.census_fold.specs.Unions.{first_refused, united_files}
use Rattle.census_state.specs.declared.fault.Fault.{Fault}
use Rattle.census_state.specs.declared.fault.Fault.TheVariants as fault
use Rattle.census_state.proofs.StoredStates.{valid_each}
use Rattle.census_fold.proofs.Taking.{IsNoDelta}

-- ---- what is taken is valid

each_in : (ops : List Operation) (o : Operation) → AllByRecursion IsOp ops → In o ops → IsOp o
each_in [] o all is = absurd is
each_in (p ∷ ops) o all is = elim is [ inl same ↦ subst IsOp (sym same) all.0 | inr later ↦ each_in ops o all.1 later ]

pub spelled_valid : Law → (bytes : Bytes) → IsBytes bytes → AreValid (operations_of bytes)
spelled_valid law bytes are o has = by (read_delta bytes) refl has
  where
    by : (m : Option (List Operation)) → read_delta bytes ≡ m → contains (set_of_read m) o ≡ true → IsOp o
    by None read h = absurd (Has-empty o h)
    by (Some ops) read h =
        let text = (law bytes ops are).0 read in
        let there : In o ops = subst (In o) (listed-set_of op_cmp_total op_cmp_exact ops (text_rising bytes ops text)) (In-listed (set_of ops) o h) in
        each_in ops o (recursion_from_All IsOp ops (valid_each bytes ops text)) there

pub still_valid : (s t : Operations) → AreValid s → AreValid t → AreValid (union s t)
still_valid s t valid others o has =
    elim (or_cases (contains s o) (contains t o) (sym (contains-union op_cmp_total op_cmp_exact s t o) ∙ has)) [
      | inl old ↦ valid o old
      | inr new ↦ others o new
    ]

pub none_valid : (s : Operations) → s ≡ empty → AreValid s
none_valid s none o has = absurd (Has-empty o (ap (λ (t : Operations). contains t o) (sym none) ∙ has))

pub each_valid : (s : Operations) → AreValid s → All IsOp (listed s)
each_valid s valid = All-from_recursion IsOp (listed s) (all_in IsOp (listed s) (λ o is. valid o (Has-listed s o is)))

-- ---- one file after another

taken_next : (s : Operations) (file : Bytes) (rest : List Bytes) → union s (operations_of_all (file ∷ rest)) ≡ union (union s (operations_of file)) (operations_of_all rest)
taken_next s file rest = sym (union_assoc op_cmp_total op_cmp_exact s (operations_of file) (operations_of_all rest))

passed_over : (place : ℕ) (file : Bytes) (rest : List Bytes) → IsSome (read_delta file) → first_refused place (file ∷ rest) ≡ first_refused (place + 1) rest
passed_over place file rest read = ap (λ b. cond b (first_refused (place + 1) rest) (Some (fault.Union place (delta_refusal file)))) read

-- where none of these is refused, the first is a delta
read_first : (place : ℕ) (file : Bytes) (rest : List Bytes) → first_refused place (file ∷ rest) ≡ None → IsSome (read_delta file)
read_first place file rest none = by (read_delta file) none
  where
    by : (m : Option (List Operation)) → cond (is_some m) (first_refused (place + 1) rest) (Some (fault.Union place (delta_refusal file))) ≡ None → IsSome m
    by None e = absurd cc
    by (Some ops) e = search rules

-- why bytes that are no delta are not taken
pub why : (file : Bytes) (r : Result ℕ TakeError) (cause : TakeError) → r ≡ Err cause → IsNoDelta cause
    → IsErrOf r Version ↔ (format_at file ≡ None) → IsErrOf r Refused ↔ (IsSome (format_at file) × ((ops : List Operation) → ¬ IsDeltaText file ops))
    → cause ≡ delta_refusal file
why file r Version is told version refused = let none = version.0 is in sym (ap (λ (f : Option Format). cond (is_none f) Version Refused) none)
why file r Refused is told version refused = sym (named (format_at file) ((refused.0 is).0))
  where
    named : (o : Option Format) → IsSome o → cond (is_none o) Version Refused ≡ Refused
    named None h = absurd cc
    named (Some f) h = refl
why file r (OutOfMemory done) is told version refused = absurd told

stopped_at : (place : ℕ) (file : Bytes) (rest : List Bytes) (e : Fault) → read_delta file ≡ None → e ≡ fault.Union place (delta_refusal file) → first_refused place (file ∷ rest) ≡ Some e
stopped_at place file rest e unread is =
    ap (λ (m : Option (List Operation)). cond (is_some m) (first_refused (place + 1) rest) (Some (fault.Union place (delta_refusal file)))) unread ∙ ap Some (sym is)

-- ---- in the list of the files, from the place i on

module _ {V : Type 0} (bytes_of : V → Bytes) (files : List V) where
  module _ (i : ℕ) (file : V) (bytes : Bytes) (splits : drop i files ≡ file ∷ drop (i + 1) files) (is : bytes ≡ bytes_of file) where
    split : map bytes_of (drop i files) ≡ bytes ∷ map bytes_of (drop (i + 1) files)
    split = ap (map bytes_of) splits ∙ ap (λ b. b ∷ map bytes_of (drop (i + 1) files)) (sym is)

    pub gathered : (s t all : Operations) → union s (operations_of_all (map bytes_of (drop i files))) ≡ all → t ≡ union s (operations_of bytes)
        → union t (operations_of_all (map bytes_of (drop (i + 1) files))) ≡ all
    gathered s t all so_far new =
        ap (λ r. union r (operations_of_all (map bytes_of (drop (i + 1) files)))) new
        ∙ sym (ap (λ l. union s (operations_of_all l)) split ∙ taken_next s bytes (map bytes_of (drop (i + 1) files)))
        ∙ so_far

    pub passed : (r : Option Fault) → first_refused (i + 1) (map bytes_of (drop i files)) ≡ r → IsSome (read_delta bytes) → first_refused (i + 1 + 1) (map bytes_of (drop (i + 1) files)) ≡ r
    passed r so_far read = sym (ap (first_refused (i + 1)) split ∙ passed_over (i + 1) bytes (map bytes_of (drop (i + 1) files)) read) ∙ so_far

    pub refused_there : (e : Fault) → read_delta bytes ≡ None → e ≡ fault.Union (i + 1) (delta_refusal bytes)
        → first_refused (i + 1) (map bytes_of (drop i files)) ≡ first_refused 1 (map bytes_of files) → first_refused 1 (map bytes_of files) ≡ Some e
    refused_there e unread named so_far =
        sym so_far ∙ ap (first_refused (i + 1)) split ∙ stopped_at (i + 1) bytes (map bytes_of (drop (i + 1) files)) e unread named

    pub read_here : first_refused (i + 1) (map bytes_of (drop i files)) ≡ None → IsSome (read_delta bytes)
    read_here none = read_first (i + 1) bytes (map bytes_of (drop (i + 1) files)) (sym (ap (first_refused (i + 1)) split) ∙ none)

  pub all_taken : (i : ℕ) (s : Operations) → length files ≤ i → union s (operations_of_all (map bytes_of (drop i files))) ≡ operations_of_all (map bytes_of files)
      → first_refused (i + 1) (map bytes_of (drop i files)) ≡ first_refused 1 (map bytes_of files) → united_files (map bytes_of files) ≡ delta_of (listed s)
  all_taken i s end taken refused =
      let none = ap (map bytes_of) (drop_all i files end) in
      let whole : s ≡ operations_of_all (map bytes_of files) = sym (union-empty op_cmp_total op_cmp_exact s) ∙ sym (ap (λ l. union s (operations_of_all l)) none) ∙ taken in
      ap (λ o. unless o (operations_of_all (map bytes_of files)) >>= λ ops. delta_of (listed ops)) (sym refused ∙ ap (first_refused (i + 1)) none)
      ∙ ap (λ ops. delta_of (listed ops)) (sym whole)
