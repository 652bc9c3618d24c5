-- Which games of a list lack blocks in files, and which in what the author of a state said.
use Rattle.std.specs.Prelude.{ℕ, ◌==◌, List, Result, Ok}
use Rattle.oct_code.specs.Code.{Code}
use Rattle.oct_delta.specs.Text.{Bytes}
use Rattle.oct_left.specs.Covered.{left}
use Rattle.oct_ops.specs.Operations.{Operations, empty, keep}
use Rattle.census_fold.specs.Reading.{held_onto}
use Rattle.census_state.specs.Codes.{codes_of}
use Rattle.census_state.specs.Steps.{◌>>=◌}
use Rattle.census_state.specs.Stored.{loaded}
use Rattle.census_state.specs.declared.fault.Fault.{Fault}

-- the codes of which the files together lack one of the first heaps, or the fault of the first file that is neither a state nor a delta
abbrev pub left_in : List Bytes → List Code → ℕ → Result (List Code) Fault
left_in files codes count = held_onto empty files >>= λ ops. Ok (left ops count codes)

-- the operations by an author
abbrev pub said_by : ℕ → Operations → Operations
said_by author ops = keep (λ o. o.dot.author == author) ops

-- the codes of which the author of a state has not said each of the first heaps, or the first fault
abbrev pub own_left : Bytes → List Bytes → ℕ → Result (List Code) Fault
own_left state words count = do
  replica ← loaded state
  named ← codes_of words
  Ok (left (said_by replica.author replica.ops) count named)
