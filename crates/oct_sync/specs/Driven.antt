-- What a driver of a session read and wrote.
use Rattle.std.specs.Prelude.{◌≡◌, ◌⊎◌, ◌++◌, [], Option}
use Rattle.std.specs.Io.KnownBytes.{Appends, Consumes, Keeps}
use Rattle.oct_delta.specs.Text.{Bytes}
use Rattle.oct_ops.specs.Operations.{Operations}
use Rattle.written.specs.Output.{AppendsPrefix}
use Rattle.oct_sync.specs.Session.{Phase, Session, HasFailed, IsDone, fed, new_client, new_client_of_all, new_giver, new_server}
use Rattle.oct_sync.specs.SessionState.{IsOpenPhase}
use Rattle.oct_sync.specs.Standing.{HasNotFailed, StopsShort}
use Rattle.oct_sync.specs.declared.error.SyncError.{SyncError}
use Rattle.oct_sync.specs.declared.error.SyncError.TheVariants as fault
use Rattle.oct_sync.specs.declared.role.Role.{Role}
use Rattle.oct_sync.specs.declared.role.Role.TheVariants.{Client, ClientOfAll, Giver, Server}

-- a session of this role at its start
abbrev pub begun : Role → Operations → Session
begun Client held = new_client held
begun ClientOfAll held = new_client_of_all held
begun Giver held = new_giver held
begun Server held = new_server held

-- what it is once these bytes came
abbrev pub after : Role → Operations → Bytes → Session
after role held bytes = (fed role (record { session = begun role held; rest = [] }) bytes).session

-- These bytes were read, and with them the session is done. What is held, and what was written, is what it makes of them.
pub record Completes (role : Role) (reader reader' writer writer' : Option Bytes) (held held' : Operations) : Type 0 where
  pub bytes : Bytes
  pub read : Consumes reader reader' bytes
  pub done : (after role held bytes).phase ≡ IsDone
  pub held_is : held' ≡ (after role held bytes).held
  pub written : Appends writer writer' (after role held bytes).sent

-- These bytes were read, and only with the last of them the session is done. What is held is what it makes of them all. What it sends for those before was written, and what it sends for the last is owed.
pub record Concludes (role : Role) (reader reader' writer writer' : Option Bytes) (held held' : Operations) (owed : Bytes) : Type 0 where
  pub before : Bytes
  pub last : Bytes
  pub read : Consumes reader reader' (before ++ last)
  pub is_open : IsOpenPhase (after role held before).phase
  pub done : (after role held (before ++ last)).phase ≡ IsDone
  pub held_is : held' ≡ (after role held (before ++ last)).held
  pub written : Appends writer writer' (after role held before).sent
  pub sent_is : (after role held (before ++ last)).sent ≡ (after role held before).sent ++ owed

-- a fault of a device, an end of the input, or too many reads
abbrev pub IsOutside : SyncError → Type 0
IsOutside fault.Frame = ⊥
IsOutside fault.Order = ⊥
IsOutside fault.Clock = ⊥
IsOutside fault.Delta = ⊥
IsOutside fault.OutOfMemory = ⊥
IsOutside fault.Failed = ⊥
IsOutside fault.Cut = Unit {0}
IsOutside fault.Read = Unit {0}
IsOutside fault.Write = Unit {0}
IsOutside fault.Turns = Unit {0}

-- what a fault tells of the session once these bytes came: a fault of a frame is the one that they show, and at any other they show none; but for a failed write, some frame is then still due
abbrev pub Tells : SyncError → Phase → Type 0
Tells fault.Frame phase = phase ≡ HasFailed fault.Frame
Tells fault.Order phase = phase ≡ HasFailed fault.Order
Tells fault.Clock phase = phase ≡ HasFailed fault.Clock
Tells fault.Delta phase = phase ≡ HasFailed fault.Delta
Tells fault.OutOfMemory phase = ⊥
Tells fault.Failed phase = ⊥
Tells fault.Cut phase = IsOpenPhase phase
Tells fault.Read phase = IsOpenPhase phase
Tells fault.Write phase = HasNotFailed phase
Tells fault.Turns phase = IsOpenPhase phase

-- These bytes were read, and the session was given up for this fault. What is held is what it makes of them, and a prefix of what it sends was written.
pub record Breaks (role : Role) (e : SyncError) (reader reader' writer writer' : Option Bytes) (held held' : Operations) : Type 0 where
  pub bytes : Bytes
  pub read : Consumes reader reader' bytes
  pub told : Tells e (after role held bytes).phase
  pub held_is : held' ≡ (after role held bytes).held
  pub written : AppendsPrefix writer writer' (after role held bytes).sent

-- nothing was read, written or taken in
pub record IsUnbegun (reader reader' writer writer' : Option Bytes) (held held' : Operations) : Type 0 where
  pub read : Keeps reader reader'
  pub written : Keeps writer writer'
  pub held_is : held' ≡ held

-- These bytes were read, and memory was refused at one of them. What is held is what the frames before it make of it, with the first so many operations of its own, where the role takes any in, and a prefix of what they send was written.
pub record RunsOut (role : Role) (reader reader' writer writer' : Option Bytes) (held held' : Operations) : Type 0 where
  pub bytes : Bytes
  pub sent : Bytes
  pub read : Consumes reader reader' bytes
  pub stops : StopsShort role (record { session = begun role held; rest = [] }) bytes held' sent
  pub written : AppendsPrefix writer writer' sent

-- what is left where memory was refused
abbrev pub LacksMemory : Role → Option Bytes → Option Bytes → Option Bytes → Option Bytes → Operations → Operations → Type 0
LacksMemory role reader reader' writer writer' held held' = IsUnbegun reader reader' writer writer' held held' ⊎ RunsOut role reader reader' writer writer' held held'
