-- What a file holds: a state, a delta, or lines of deltas.
use Rattle.std.specs.Prelude.{ℕ, Bool, ◌||◌, nat_lt, nat_eq, length, codes, Result, Ok, Err, if◌then◌else◌}
use Rattle.std.specs.List.{starts_with}
use Rattle.oct_delta.specs.Text.{Bytes}
use Rattle.oct_ops.specs.Operations.{Operations}
use Rattle.oct_record.specs.States.{has_tag}
use Rattle.census_fold.specs.Digests.{operations_in}
use Rattle.census_fold.specs.Folded.{refused, taken}
use Rattle.census_state.specs.declared.fault.Fault.{Fault}
use Rattle.census_state.specs.declared.fault.Fault.TheVariants.{TooLong}
use Rattle.census_state.specs.declared.input.TheConstants.{INPUT_LIMIT}

-- the bytes begin as a state or a delta does
abbrev pub is_tagged : Bytes → Bool
is_tagged file = has_tag file || starts_with nat_eq file (codes "OGD1") || starts_with nat_eq file (codes "OGD2")

-- the operations of a state or a delta, or else those that the lines spell which are deltas
abbrev pub said_in : Bytes → Result Operations Fault
said_in file = if is_tagged file then operations_in file else Ok (taken file)

-- of a file that is not too long
abbrev pub held_in : Bytes → Result Operations Fault
held_in file = if nat_lt INPUT_LIMIT (length file) then Err TooLong else said_in file

-- how many of its lines are no deltas; a state or a delta has no lines
abbrev pub refused_in : Bytes → ℕ
refused_in file = if is_tagged file then 0 else refused file
