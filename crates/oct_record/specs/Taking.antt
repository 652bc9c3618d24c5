-- What a record has after operations were handed to it.
use Rattle.std.specs.Prelude.{◌≡◌, ◌<◌, ◌+◌, ◌-◌, ◌^◌, ℕ, Bool, true, false, not, nat_lt, List, length, filter, take}
use Rattle.oct_ops.specs.Body.{Body, Operation}
use Rattle.oct_ops.specs.Operations.{Operations, contains, listed, set_of, union}
use Rattle.oct_store.specs.Summary.{last}
use Rattle.oct_record.specs.Content.{RecordContent}
use Rattle.oct_record.specs.declared.error.TakeError.{TakeError}
use Rattle.oct_record.specs.declared.error.TakeError.TheVariants.{Version, Refused, OutOfMemory}
use Rattle.oct_record.specs.declared.error.IssueError.{IssueError}
use Rattle.oct_record.specs.declared.error.IssueError.TheVariants as issue

-- the record with these operations too
abbrev pub with_all : RecordContent → Operations → RecordContent
with_all r ops = record r { ops = union r.ops ops }

-- the operations of the list that the set has not
abbrev pub unheld : Operations → List Operation → List Operation
unheld ops list = filter (λ o. not (contains ops o)) list

-- how many operations of the list the set has not
abbrev pub count_new : Operations → List Operation → ℕ
count_new ops list = length (unheld ops list)

-- the first `done` operations of the list are in, no other was added, and one more was due
pub record IsCut (old new : RecordContent) (list : List Operation) (done : ℕ) : Type 0 where
  pub due : done < length list
  pub held : new ≡ with_all old (set_of (take done list))

-- what a refusal leaves: without memory the first operations, and else all as it was
abbrev pub LeavesAt : RecordContent → RecordContent → List Operation → TakeError → Type 0
LeavesAt old new list Version = new ≡ old
LeavesAt old new list Refused = new ≡ old
LeavesAt old new list (OutOfMemory done) = IsCut old new list done

-- the one refusal where a list is taken in
abbrev pub IsCutBy : RecordContent → RecordContent → List Operation → TakeError → Type 0
IsCutBy old new list Version = ⊥
IsCutBy old new list Refused = ⊥
IsCutBy old new list (OutOfMemory done) = IsCut old new list done

-- why nothing is issued, by whether there is a number
abbrev pub issue_error : Bool → IssueError
issue_error true = issue.OutOfMemory
issue_error false = issue.LastNumber

-- ---- what the author issues next

-- the greatest number of an operation
abbrev pub last_number : ℕ
last_number = 2 ^ 32 - 1

-- the operation that the author would issue next
abbrev pub next_op : Operations → ℕ → Body → Operation
next_op held author body = record { dot = record { author = author; number = last (listed held) author + 1 }; body = body }

abbrev pub has_number : Operations → ℕ → Bool
has_number held author = nat_lt (last (listed held) author) last_number
