-- What delta files give as one delta.
use Rattle.std.specs.Prelude.{ℕ, ◌+◌, List, [], ◌∷◌, is_some, Option, Some, None, Result, if◌then◌else◌}
use Rattle.oct_delta.specs.Decoding.{read_delta}
use Rattle.oct_delta.specs.Taken.{operations_of_all}
use Rattle.oct_delta.specs.Text.{Bytes}
use Rattle.oct_ops.specs.Operations.{listed}
use Rattle.census_fold.specs.Deltas.{delta_of}
use Rattle.census_state.specs.Replies.{Answer}
use Rattle.census_state.specs.States.{delta_refusal}
use Rattle.census_state.specs.Steps.{◌>>=◌, unless}
use Rattle.census_state.specs.declared.fault.Fault.{Fault}
use Rattle.census_state.specs.declared.fault.Fault.TheVariants.{Union}

-- the first of these files that is no delta: its place, where the first of them has this one, and why
abbrev pub first_refused : ℕ → List Bytes → Option Fault
first_refused place [] = None
first_refused place (file ∷ files) = if is_some (read_delta file) then first_refused (place + 1) files else Some (Union place (delta_refusal file))

-- the union of the operations of all files, as one delta
abbrev pub united_files : List Bytes → Result Answer Fault
united_files files = unless (first_refused 1 files) (operations_of_all files) >>= λ ops. delta_of (listed ops)
