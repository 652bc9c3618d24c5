-- What a file holds, and how many of its lines are said to be left out.
use Rattle.std.proofs.Common.{arith, ◌≡◌, ℕ, ◌≤◌, ◌⊎◌, inl, inr, true, false, cond, length, Result, Ok, Err, IfOk, IfErr, OnOk, sym, ap, ◌∙◌}
use Rattle.std.specs.Prelude.{IsSome}
use Rattle.std.proofs.lemmas.Bool.{le-ltb, ne_eqb}
use Rattle.oct_delta.specs.Decoding.{read_delta}
use Rattle.oct_delta.specs.Taken.{operations_of}
use Rattle.oct_delta.specs.Text.{Bytes}
use Rattle.oct_ops.specs.Operations.{Operations}
use Rattle.oct_record.specs.Content.{RecordContent}
use Rattle.oct_record.specs.States.{has_tag}
use Rattle.oct_sync.specs.declared.error.SyncError.{SyncError}
use Rattle.oct_sync.specs.declared.error.SyncError.TheVariants as sync
use Rattle.oct_text.specs.Words.{Text}
use Rattle.census_fold.specs.Digests.{operations_in}
use Rattle.census_fold.specs.Folded.{taken}
use Rattle.census_state.specs.States.{delta_of, delta_refusal}
use Rattle.census_state.specs.Statuses.{status_of, sync_status}
use Rattle.census_state.specs.Steps.{◌>>=◌}
use Rattle.census_state.specs.Stored.{loaded}
use Rattle.census_state.specs.declared.fault.Fault.{Fault}
use Rattle.census_state.specs.declared.fault.Fault.TheVariants as fault
use Rattle.census_state.specs.declared.input.TheConstants.{INPUT_LIMIT}
use Rattle.page.specs.Answers.{refused_told}
use Rattle.page.specs.Files.{held_in, is_tagged, refused_in, said_in}
use Rattle.page.specs.Telling.{IsTold}

-- ---- states and deltas

pub of_state : (file : Bytes) (r : RecordContent) → has_tag file ≡ true → loaded file ≡ Ok r → operations_in file ≡ Ok r.ops
of_state file r tagged load =
    ap (λ b. cond b (loaded file >>= λ q. Ok q.ops) (delta_of file)) tagged ∙ ap (λ l. l >>= λ q. Ok q.ops) load

pub of_no_state : (file : Bytes) (e : Fault) → has_tag file ≡ true → loaded file ≡ Err e → operations_in file ≡ Err e
of_no_state file e tagged load =
    ap (λ b. cond b (loaded file >>= λ q. Ok q.ops) (delta_of file)) tagged ∙ ap (λ l. l >>= λ q. Ok q.ops) load

pub as_delta : (file : Bytes) → has_tag file ≡ false → operations_in file ≡ delta_of file
as_delta file untagged = ap (λ b. cond b (loaded file >>= λ q. Ok q.ops) (delta_of file)) untagged

pub of_delta : (file : Bytes) (ops : Operations) → IsSome (read_delta file) → ops ≡ operations_of file → delta_of file ≡ Ok ops
of_delta file ops read is = ap (λ t. cond t (Ok (operations_of file)) (Err (fault.Merge (delta_refusal file)))) read ∙ ap Ok (sym is)

-- ---- any file

within : (file : Bytes) → length file ≤ INPUT_LIMIT → held_in file ≡ said_in file
within file fits = ap (λ b. cond b (Err fault.TooLong) (said_in file)) (le-ltb INPUT_LIMIT (length file) fits)

pub held_tagged : (file : Bytes) → length file ≤ INPUT_LIMIT → is_tagged file ≡ true → held_in file ≡ operations_in file
held_tagged file fits tagged = within file fits ∙ ap (λ b. cond b (operations_in file) (Ok (taken file))) tagged

pub held_lines : (file : Bytes) → length file ≤ INPUT_LIMIT → is_tagged file ≡ false → held_in file ≡ Ok (taken file)
held_lines file fits untagged = within file fits ∙ ap (λ b. cond b (operations_in file) (Ok (taken file))) untagged

-- ---- what is left out

sync_some : (cause : SyncError) → 1 ≤ sync_status cause
sync_some sync.Frame = omega arith
sync_some sync.Order = omega arith
sync_some sync.Clock = omega arith
sync_some sync.Delta = omega arith
sync_some sync.OutOfMemory = omega arith
sync_some sync.Failed = omega arith
sync_some sync.Cut = omega arith
sync_some sync.Read = omega arith
sync_some sync.Write = omega arith
sync_some sync.Turns = omega arith

-- no fault has the number of an answer
status_some : (e : Fault) → 1 ≤ status_of e
status_some fault.Number = omega arith
status_some fault.Words = omega arith
status_some fault.Exists = omega arith
status_some fault.File = omega arith
status_some fault.Same = omega arith
status_some fault.Occupied = omega arith
status_some fault.TooLong = omega arith
status_some (fault.Load cause) = omega arith
status_some fault.Zero = omega arith
status_some fault.Held = omega arith
status_some fault.Author = omega arith
status_some fault.Apart = omega arith
status_some (fault.Authors count most) = omega arith
status_some fault.Json = omega arith
status_some (fault.Import cause) = omega arith
status_some (fault.Bfile cause) = omega arith
status_some (fault.Saved cause) = omega arith
status_some (fault.Code cause) = omega arith
status_some (fault.Compute cause) = omega arith
status_some (fault.Period cause) = omega arith
status_some (fault.Note cause) = omega arith
status_some (fault.Removal cause) = omega arith
status_some (fault.Merge cause) = omega arith
status_some (fault.Union place cause) = omega arith
status_some fault.NoPage = omega arith
status_some fault.Net = omega arith
status_some (fault.Sync cause) = sync_some cause
status_some (fault.Issue cause) = omega arith
status_some fault.TooMany = omega arith
status_some fault.PastValue = omega arith
status_some fault.Read = omega arith
status_some fault.Write = omega arith
status_some fault.OutOfMemory = omega arith

pub none_told : (file : Bytes) (e : Fault) (number told : ℕ) → number ≡ status_of e → told ≡ 0 → told ≡ refused_told file number
none_told file e number told is none =
    none ∙ sym (ap (λ b. cond b (refused_in file) 0) (ne_eqb number 0 (λ zero. omega (arith, status_some e, is, zero))))

-- where a number and how many lines are left out were told of an answer
pub left_told : {V : Type 0} (r : Result V Fault) (items : V → Text) (file : Bytes) (number : ℕ) (old new : Bytes) (whole left told : ℕ)
    → IfOk r (λ v. IsTold (Ok (items v)) number old new whole)
    → IfErr r (λ e. IsTold (Err e) number old new whole ⊎ IsTold (Err fault.OutOfMemory) number old new whole)
    → OnOk r (left ≡ refused_in file) → (number ≡ 0 → told ≡ left) → (1 ≤ number → told ≡ 0) → told ≡ refused_told file number
left_told (Ok v) items file number old new whole left told is failed held kept none =
    kept is.number_is ∙ held ∙ sym (ap (refused_told file) is.number_is)
left_told (Err e) items file number old new whole left told is failed held kept none = elim failed [
  | inl this ↦ none_told file e number told this.number_is (none (omega (arith, status_some e, this.number_is)))
  | inr memory ↦ none_told file fault.OutOfMemory number told memory.number_is (none (omega (arith, memory.number_is)))
]
