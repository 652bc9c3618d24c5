-- What is asked of the first nim-values of a game.
use Rattle.std.specs.Prelude.{ℕ, ◌&&◌, nat_le, Result, Ok, Err, if◌then◌else◌}
use Rattle.oct_code.specs.Code.{Code}
use Rattle.oct_delta.specs.Text.{Bytes}
use Rattle.census_state.specs.Codes.{code_of}
use Rattle.census_state.specs.Steps.{◌>>=◌}
use Rattle.census_state.specs.declared.fault.Fault.{Fault}
use Rattle.census_state.specs.declared.fault.Fault.TheVariants.{Number}

-- a number from 1 to `most`
abbrev pub counted : ℕ → ℕ → Result ℕ Fault
counted most count = if nat_le 1 count && nat_le count most then Ok count else Err Number

-- the game of a word, of which so many nim-values are asked for; `Number` comes before `Code`
abbrev pub asked : ℕ → ℕ → Bytes → Result Code Fault
asked most count word = counted most count >>= λ n. code_of word
