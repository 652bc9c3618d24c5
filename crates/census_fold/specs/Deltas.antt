-- What the command gives that writes all operations as one delta.
use Rattle.std.specs.Prelude.{◌^◌, nat_lt, List, length, codes, Some, None, Result, Ok, Err, if◌then◌else◌}
use Rattle.oct_delta.specs.Delta.{encoded}
use Rattle.oct_delta.specs.Text.{Bytes}
use Rattle.oct_ops.specs.Body.{Operation}
use Rattle.oct_ops.specs.Operations.{listed}
use Rattle.census_state.specs.Alone.{only_of}
use Rattle.census_state.specs.Codes.{codes_of}
use Rattle.census_state.specs.Lines.{number_line}
use Rattle.census_state.specs.Replies.{Answer}
use Rattle.census_state.specs.Steps.{◌>>=◌}
use Rattle.census_state.specs.Stored.{loaded}
use Rattle.census_state.specs.declared.fault.Fault.{Fault}
use Rattle.census_state.specs.declared.fault.Fault.TheVariants.{TooMany}

-- all operations as one delta
abbrev pub delta_of : List Operation → Result Answer Fault
delta_of ops =
    if nat_lt (length ops) (2 ^ 32)
    then Ok (record { state = None; file = Some (encoded ops); text = number_line (codes "operations ") (length ops) })
    else Err TooMany

-- the operations of the state as one delta
abbrev pub delta : Bytes → Result Answer Fault
delta state = loaded state >>= λ replica. delta_of (listed replica.ops)

-- the blocks and claims of the games of these codes as one delta
abbrev pub delta_of_games : Bytes → List Bytes → Result Answer Fault
delta_of_games state words = do
  replica ← loaded state
  named ← codes_of words
  delta_of (listed (only_of named replica.ops))
