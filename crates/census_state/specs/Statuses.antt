-- Exit statuses.
use Rattle.std.specs.Prelude.{ℕ}
use Rattle.oct_sync.specs.declared.error.SyncError.{SyncError}
use Rattle.oct_sync.specs.declared.error.SyncError.TheVariants as sync
use Rattle.census_state.specs.declared.fault.Fault.{Fault}
use Rattle.census_state.specs.declared.fault.Fault.TheVariants.{Number, Words, Exists, File, Same, Occupied, TooLong, Net, Read, Write, Sync, OutOfMemory}

-- what a session met on its stream is 3, and what the other side sent is 1
abbrev pub sync_status : SyncError → ℕ
sync_status sync.Cut = 3
sync_status sync.Read = 3
sync_status sync.Write = 3
sync_status sync.Turns = 3
sync_status cause = 1

-- 2 for the command line, 3 for files, streams and the network, 4 for memory, and 1 where something was refused
abbrev pub status_of : Fault → ℕ
status_of Number = 2
status_of Words = 2
status_of Exists = 3
status_of File = 3
status_of Same = 3
status_of Occupied = 3
status_of TooLong = 3
status_of Net = 3
status_of Read = 3
status_of Write = 3
status_of (Sync cause) = sync_status cause
status_of OutOfMemory = 4
status_of fault = 1
