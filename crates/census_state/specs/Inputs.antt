-- Why an input is not read, and why its lines are not folded.
use Rattle.std.specs.Prelude.{◌≡◌, ◌⊎◌}
use Rattle.std.specs.declared.io.ErrorKind.{ErrorKind}
use Rattle.std.specs.declared.io.ErrorKind.TheVariants as kind
use Rattle.census_state.specs.declared.fault.Fault.{Fault}
use Rattle.census_state.specs.declared.fault.Fault.TheVariants as fault

-- an input is too long, a read fails, or memory is refused
abbrev pub IsInputFault : Fault → Type 0
IsInputFault fault.TooLong = Unit {0}
IsInputFault fault.Read = Unit {0}
IsInputFault fault.OutOfMemory = Unit {0}
IsInputFault e = ⊥

-- or a write fails
abbrev pub IsFoldFault : Fault → Type 0
IsFoldFault e = IsInputFault e ⊎ (e ≡ fault.Write)

-- the fault of a read that failed with an error of this kind
abbrev pub read_fault : ErrorKind → Fault
read_fault kind.OutOfMemory = fault.OutOfMemory
read_fault _ = fault.Read

-- the fault of a write that failed so
abbrev pub write_fault : ErrorKind → Fault
write_fault kind.OutOfMemory = fault.OutOfMemory
write_fault _ = fault.Write
