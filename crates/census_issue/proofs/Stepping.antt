-- Steps that were taken, and one that was refused.
use Rattle.std.proofs.Common.{◌≡◌, ◌≢◌, Bool, true, false, cond, Option, None, Some, Err, sym, ap, ◌∙◌, refl}
use Rattle.std.specs.Prelude.{unwrap_or}
use Rattle.oct_delta.specs.Text.{Bytes}
use Rattle.oct_notes.specs.Notes.{live_dots}
use Rattle.oct_ops.specs.Faults.{IsFaultOrMemory}
use Rattle.oct_ops.specs.Body.{Body}
use Rattle.oct_ops.specs.Operation.{Dot, removing}
use Rattle.oct_ops.specs.Operations.{insert, listed}
use Rattle.oct_ops.specs.declared.error.NoteError.{NoteError}
use Rattle.oct_ops.specs.declared.error.NoteError.TheVariants as note
use Rattle.oct_period.specs.declared.computing.ComputeError.{ComputeError}
use Rattle.oct_period.specs.declared.computing.ComputeError.TheVariants as compute
use Rattle.oct_record.specs.Removals.{RefusesRemoval}
use Rattle.oct_record.specs.Content.{RecordContent}
use Rattle.oct_record.specs.Taking.{issue_error}
use Rattle.oct_record.specs.Taking.{has_number, next_op}
use Rattle.oct_record.specs.declared.error.IssueError.{IssueError}
use Rattle.oct_record.specs.declared.error.IssueError.TheVariants as issue
use Rattle.oct_record.specs.declared.error.RemovalError.{RemovalError}
use Rattle.oct_record.specs.declared.error.RemovalError.TheVariants as removal
use Rattle.census_issue.specs.Issuing.{issued, issued_line, removal_of, with_op}
use Rattle.census_state.specs.Refusals.{compute_fault, issue_fault, note_fault, removal_fault}
use Rattle.census_state.specs.Steps.{because, unless}
use Rattle.census_state.specs.Stored.{saved}
use Rattle.census_state.specs.declared.fault.Fault.TheVariants as fault

-- ---- the fault of a step, unless memory was refused

compute_named : (e : ComputeError) → compute_fault e ≢ fault.OutOfMemory → fault.Compute e ≡ compute_fault e
compute_named compute.Zero other = refl
compute_named compute.TooMany other = refl
compute_named compute.AtLimit other = refl
compute_named compute.OutOfMemory other = absurd (other refl)

pub not_computed : {A : Type 0} (found : Option ComputeError) (value : A) (e : ComputeError) → e ≡ unwrap_or found compute.OutOfMemory → compute_fault e ≢ fault.OutOfMemory
    → because fault.Compute (unless found value) ≡ Err (compute_fault e)
not_computed None value e is other = absurd (other (ap compute_fault is))
not_computed (Some cause) value e is other = ap (λ c. Err (fault.Compute c)) (sym is) ∙ ap Err (compute_named e other)

note_named : (e : NoteError) → note_fault e ≢ fault.OutOfMemory → fault.Note e ≡ note_fault e
note_named note.Name other = refl
note_named note.Text other = refl
note_named note.OutOfMemory other = absurd (other refl)

pub not_noted : {A : Type 0} (found : Option NoteError) (value : A) (e : NoteError) → IsFaultOrMemory found e → note_fault e ≢ fault.OutOfMemory
    → because fault.Note (unless found value) ≡ Err (note_fault e)
not_noted None value e is other = absurd (other (ap note_fault is))
not_noted (Some cause) value e is other = ap (λ c. Err (fault.Note c)) (sym is) ∙ ap Err (note_named e other)

pub not_removed : (r : RecordContent) (name : Bytes) (e : RemovalError) → RefusesRemoval (live_dots (listed r.ops) name) e → removal_fault e ≢ fault.OutOfMemory → removal_of r name ≡ Err (removal_fault e)
not_removed r name removal.NoNote is other = ap (λ f. because fault.Removal (unless f (removing (live_dots (listed r.ops) name)))) is
not_removed r name removal.TooMany is other = ap (λ f. because fault.Removal (unless f (removing (live_dots (listed r.ops) name)))) is
not_removed r name removal.OutOfMemory is other = absurd (other refl)

-- ---- an operation that is issued, or refused

pub issued_as : (r new : RecordContent) (body : Body) (dot : Dot) (text : Bytes) → has_number r.ops r.author ≡ true → new ≡ record r { ops = insert r.ops (next_op r.ops r.author body) }
    → dot ≡ (next_op r.ops r.author body).dot → text ≡ issued_line dot → issued r body ≡ saved new text
issued_as r new body dot text room is dotted spelled =
    ap (λ b. cond b (with_op r (next_op r.ops r.author body)) (Err (fault.Issue issue.LastNumber))) room
    ∙ (λ i. saved (sym is i) (sym (spelled ∙ ap issued_line dotted) i))

pub not_issued : (r : RecordContent) (body : Body) (b : Bool) (e : IssueError) → has_number r.ops r.author ≡ b → e ≡ issue_error b → issue_fault e ≢ fault.OutOfMemory → issued r body ≡ Err (issue_fault e)
not_issued r body true e room is other = absurd (other (ap issue_fault is))
not_issued r body false e room is other =
    ap (λ b. cond b (with_op r (next_op r.ops r.author body)) (Err (fault.Issue issue.LastNumber))) room ∙ ap (λ c. Err (issue_fault c)) (sym is)
