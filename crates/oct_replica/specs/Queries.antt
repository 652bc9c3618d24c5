-- What a replica answers where it is asked for the nim-value of a position.
use Rattle.std.specs.Prelude.{ℕ, Result, Ok, Err}
use Rattle.oct_period.specs.declared.unknown.Unknown.{Unknown}
use Rattle.oct_replica.specs.declared.error.QueryError.{QueryError}
use Rattle.oct_replica.specs.declared.error.QueryError.TheVariants as errors

-- the nim-value, or the place of the first heap that has none
abbrev pub queried : Result ℕ Unknown → Result ℕ QueryError
queried (Ok value) = Ok value
queried (Err unknown) = Err (errors.Unknown unknown.index)
