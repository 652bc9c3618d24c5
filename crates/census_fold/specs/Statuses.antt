-- What a state file holds, in a few lines.
use Rattle.std.specs.Prelude.{ℕ, ◌++◌, codes, length, Result, Ok}
use Rattle.oct_delta.specs.Text.{Bytes}
use Rattle.oct_log.specs.Status.{status_text}
use Rattle.oct_ops.specs.Operations.{listed}
use Rattle.oct_text.specs.Words.{Text, labelled}
use Rattle.census_fold.specs.Digests.{digest_of_set}
use Rattle.census_state.specs.Steps.{◌>>=◌}
use Rattle.census_state.specs.Stored.{loaded}
use Rattle.census_state.specs.declared.fault.Fault.{Fault}

-- the digest of the operations, and how many bytes the file has
abbrev pub file_lines : Bytes → ℕ → Text
file_lines digits size = codes "digest " ++ digits ++ labelled (codes "\nbytes ") size ++ codes "\n"

-- the status of the state
abbrev pub status : Bytes → Result Text Fault
status state = loaded state >>= λ replica. digest_of_set replica.ops >>= λ digits. Ok (status_text replica.author (listed replica.ops) ++ file_lines digits (length state))
