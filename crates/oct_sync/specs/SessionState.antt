-- What the parts of a session stand for.
use Rattle.std.specs.Prelude.{◌≡◌, ◌⊎◌, ℕ, ◌+◌, ◌<◌, ◌≤◌, true, false, [], ◌++◌, length, Option, Some, None, Result, Ok, Err, IfSome}
use Rattle.oct_delta.specs.Bytes.{IsBytes}
use Rattle.oct_delta.specs.Text.{Bytes}
use Rattle.oct_ops.specs.Operations.{Operations}
use Rattle.oct_sync.specs.Frames.{begins_whole, clock_tag, delta_tag, is_length, length_field, tag_field}
use Rattle.oct_sync.specs.Session.{Phase, AwaitsClock, AwaitsDeltas, AwaitsEnd, IsDone, HasFailed, Point, fed, head_fault, rest_fault, missing_bytes}
use Rattle.oct_sync.specs.Standing.{Kept, Known, Lost, Standing, IsAt, TakesFirst, ended}
use Rattle.oct_sync.specs.declared.error.SyncError.{SyncError}
use Rattle.oct_sync.specs.declared.error.SyncError.TheVariants as fault
use Rattle.oct_sync.specs.declared.role.Role.{Role}
use Rattle.oct_sync.specs.declared.state.Delta.{Delta}
use Rattle.oct_sync.specs.declared.state.Due.{Due}
use Rattle.oct_sync.specs.declared.state.Due.TheVariants as due
use Rattle.oct_sync.specs.declared.state.Incoming.{Incoming}
use Rattle.oct_sync.specs.declared.state.Incoming.TheVariants as incoming
use Rattle.oct_sync.specs.declared.state.SessionState.{SessionState}

abbrev pub phase_of : {A : Type 0} → Due A → Phase
phase_of due.Clock = AwaitsClock
phase_of (due.Deltas t) = AwaitsDeltas t
phase_of due.End = AwaitsEnd
phase_of due.Nothing = IsDone

-- the bytes before the payload, and those of it that the reader knows
abbrev pub kept_by : Bytes → ℕ → Option Bytes → Kept
kept_by head missing (Some bytes) = Known (head ++ bytes)
kept_by head missing None = Lost head missing

abbrev pub kept_of_delta : {A : Type 0} → Delta A → Kept
kept_of_delta d = kept_by d.head.items d.missing d.reader

abbrev pub kept_of : {A : Type 0} → Incoming A → Kept
kept_of (incoming.Kept bytes) = Known bytes.items
kept_of (incoming.Delta d) = kept_of_delta d

abbrev pub standing_of : {A : Type 0} → Role → SessionState A → Standing
standing_of role s = record { role = role; phase = phase_of s.due; kept = kept_of s.incoming }

abbrev pub standing_if : {A : Type 0} → Role → Option (SessionState A) → Option Standing
standing_if role None = None
standing_if role (Some s) = Some (standing_of role s)

-- some frame is due
abbrev pub IsOpenPhase : Phase → Type 0
IsOpenPhase AwaitsClock = Unit {0}
IsOpenPhase (AwaitsDeltas t) = Unit {0}
IsOpenPhase AwaitsEnd = Unit {0}
IsOpenPhase IsDone = ⊥
IsOpenPhase (HasFailed f) = ⊥

-- the first bytes of a frame, or of a clock frame
pub record IsFront (phase : Phase) (bytes : Bytes) : Type 0 where
  pub unfinished : begins_whole bytes ≡ false
  pub faultless : rest_fault phase bytes ≡ None
  pub tag : 5 ≤ length bytes → tag_field bytes ≡ clock_tag
  pub ended : phase ≡ IsDone → bytes ≡ []

-- what the reader was fed is what came of the payload
abbrev pub IsCounted : Bytes → ℕ → Option Bytes → Type 0
IsCounted head missing known = IfSome known (λ bytes. (length bytes + missing + 1 ≡ length_field head) × IsBytes bytes)

-- the first bytes of a delta frame that is due, and a reader of its payload
pub record IsDeltaFront (phase : Phase) (head : Bytes) (missing : ℕ) (known : Option Bytes) : Type 0 where
  pub long : length head ≡ 5
  pub is : is_length (length_field head) ≡ true
  pub tag : tag_field head ≡ delta_tag
  pub due : head_fault phase (length_field head) delta_tag ≡ None
  pub few : missing < length_field head
  pub counted : IsCounted head missing known

abbrev pub IsIncoming : {A : Type 0} → Phase → Incoming A → Type 0
IsIncoming phase (incoming.Kept bytes) = IsFront phase bytes.items
IsIncoming phase (incoming.Delta d) = IsDeltaFront phase d.head.items d.missing d.reader × (1 ≤ d.missing) × IsOpenPhase phase

abbrev pub IsSessionState : {A : Type 0} → SessionState A → Type 0
IsSessionState s = IsIncoming (phase_of s.due) s.incoming

abbrev pub IsSessionStateIf : {A : Type 0} → Option (SessionState A) → Type 0
IsSessionStateIf None = Unit {0}
IsSessionStateIf (Some s) = IsSessionState s

-- bytes of one frame, of which at most a clock frame goes on after the fifth
abbrev pub IsShort : Bytes → Type 0
IsShort bytes = (length bytes ≤ 5) ⊎ ((tag_field bytes ≡ clock_tag) × (length bytes ≤ 4 + length_field bytes))

-- a whole frame that is due
pub record IsWholeFrame (phase : Phase) (bytes : Bytes) : Type 0 where
  pub long : 5 ≤ length bytes
  pub is : is_length (length_field bytes) ≡ true
  pub ends : length bytes ≡ 4 + length_field bytes
  pub due : head_fault phase (length_field bytes) (tag_field bytes) ≡ None

abbrev pub missing_of : {A : Type 0} → Incoming A → ℕ
missing_of (incoming.Kept bytes) = missing_bytes bytes.items
missing_of (incoming.Delta d) = d.missing

abbrev pub wanted_in : {A : Type 0} → Phase → Incoming A → ℕ
wanted_in IsDone frame = 0
wanted_in (HasFailed f) frame = 0
wanted_in phase frame = missing_of frame

abbrev pub wanted_by : {A : Type 0} → SessionState A → ℕ
wanted_by s = wanted_in (phase_of s.due) s.incoming

abbrev pub point : Phase → Operations → Bytes → Bytes → Point
point phase held sent rest = record { session = record { phase = phase; held = held; sent = sent }; rest = rest }

-- ---- what a step made of a point

-- memory was refused: nothing was sent, and of a delta the first so many operations are in, where the role takes any in
pub record Stops (role : Role) (p : Point) (bytes : Bytes) (held : Operations) (sent : Bytes) : Type 0 where
  pub held_is : TakesFirst role p bytes held
  pub sent_is : sent ≡ p.session.sent

abbrev pub Fails : Role → Point → Bytes → SyncError → Operations → Bytes → Type 0
Fails role p bytes fault.OutOfMemory held sent = Stops role p bytes held sent
Fails role p bytes fault.Failed held sent = ⊥
Fails role p bytes fault.Cut held sent = ⊥
Fails role p bytes fault.Read held sent = ⊥
Fails role p bytes fault.Write held sent = ⊥
Fails role p bytes fault.Turns held sent = ⊥
Fails role p bytes e held sent = (fed role p bytes).session ≡ ended e held sent

abbrev pub Steps : {A : Type 0} → Role → Point → Bytes → Result (SessionState A) SyncError → Operations → Bytes → Type 0
Steps role p bytes (Ok next) held sent = IsAt role (standing_of role next) held sent (fed role p bytes)
Steps role p bytes (Err e) held sent = Fails role p bytes e held sent
