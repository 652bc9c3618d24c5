-- What a session keeps of the point at which it is.
use Rattle.std.specs.Prelude.{◌≡◌, ◌⊎◌, ℕ, ◌+◌, ◌≤◌, ◌==◌, List, [], ◌∷◌, ◌++◌, length, take, Option, Some, None, if◌then◌else◌, refl}
use mathlib.Core.Logic.{inl, inr}
use base.Stored.{coded_unit}
use Rattle.std.specs.Coded.{Coded, code_by, coded×, coded⊎, coded_ℕ, coded_list, coded_option}
use Rattle.oct_delta.specs.Bytes.{IsBytes}
use Rattle.oct_delta.specs.Decoding.{read_delta}
use Rattle.oct_delta.specs.ReaderState.{IsHopeless}
use Rattle.oct_delta.specs.Text.{Bytes}
use Rattle.oct_join.specs.Clock.{Clock, clock_code}
use Rattle.oct_ops.specs.Body.{Operation}
use Rattle.oct_ops.specs.Operations.{Operations, set_of}
use Rattle.oct_sync.specs.Frames.{delta_tag, length_field, split_frames}
use Rattle.oct_sync.specs.Session.{Phase, AwaitsClock, AwaitsDeltas, AwaitsEnd, IsDone, HasFailed, Session, Point, fed, taken_in, wanted}
use Rattle.oct_sync.specs.declared.error.SyncError.{SyncError}
use Rattle.oct_sync.specs.declared.error.SyncError.TheVariants as fault
use Rattle.oct_sync.specs.declared.role.Role.{Role}
use Rattle.oct_sync.specs.declared.role.Role.TheVariants.{Client, ClientOfAll, Giver, Server}
use Rattle.oct_sync.specs.declared.progress.Progress.{Progress}
use Rattle.oct_sync.specs.declared.progress.Progress.TheVariants.{More, Done}

-- what is kept of a frame: all bytes that came; or, of a delta frame whose payload begins no delta, those before the payload and how many of it are missing
pub data Kept : Type 0 where
  Known : Bytes → Kept
  Lost : Bytes → ℕ → Kept

pub record Standing : Type 0 where
  pub role : Role
  pub phase : Phase
  pub kept : Kept

-- a session to which nothing was fed
abbrev pub at_start : Role → Standing
at_start role = record { role = role; phase = AwaitsClock; kept = Known [] }

-- ---- where it is

-- these bytes came, the payload begins no delta, and so many bytes of it are missing
pub record IsLost (head : Bytes) (missing : ℕ) (rest : Bytes) : Type 0 where
  pub payload : Bytes
  pub spelled : rest ≡ head ++ payload
  pub bytes : IsBytes payload
  pub hopeless : IsHopeless payload
  pub counted : length payload + missing + 1 ≡ length_field head

abbrev pub IsRest : Kept → Bytes → Type 0
IsRest (Known bytes) rest = rest ≡ bytes
IsRest (Lost head missing) rest = IsLost head missing rest

-- a session of this role, whose replica holds this set and which sent these bytes, is at the point
pub record IsAt (role : Role) (s : Standing) (held : Operations) (sent : Bytes) (p : Point) : Type 0 where
  pub role_is : s.role ≡ role
  pub session : p.session ≡ record { phase = s.phase; held = held; sent = sent }
  pub rest : IsRest s.kept p.rest

-- after a refusal it is nowhere
abbrev pub StandsAt : Role → Option Standing → Operations → Bytes → Point → Type 0
StandsAt role None held sent p = ⊥
StandsAt role (Some s) held sent p = IsAt role s held sent p

abbrev pub progress_in : Phase → Progress
progress_in AwaitsClock = More
progress_in (AwaitsDeltas t) = More
progress_in AwaitsEnd = More
progress_in IsDone = Done
progress_in (HasFailed f) = More

abbrev pub progress_of : Option Standing → Progress
progress_of None = More
progress_of (Some s) = progress_in s.phase

-- no fault was shown
abbrev pub HasNotFailed : Phase → Type 0
HasNotFailed AwaitsClock = Unit {0}
HasNotFailed (AwaitsDeltas t) = Unit {0}
HasNotFailed AwaitsEnd = Unit {0}
HasNotFailed IsDone = Unit {0}
HasNotFailed (HasFailed f) = ⊥

-- it is somewhere, and no fault was shown
abbrev pub StandsSound : Option Standing → Type 0
StandsSound None = ⊥
StandsSound (Some s) = HasNotFailed s.phase

-- ---- where it ended early

-- a session that failed, with what it held and had sent
abbrev pub ended : SyncError → Operations → Bytes → Session
ended f held sent = record { phase = HasFailed f; held = held; sent = sent }

-- these bytes end a delta frame of these operations, in the order of its payload, and what the role takes in of them is in
pub record EndsDelta (role : Role) (p : Point) (bytes : Bytes) (ops : List Operation) : Type 0 where
  pub payload : Bytes
  pub frame : split_frames (p.rest ++ bytes) ≡ record { frames = record { tag = delta_tag; payload = payload } ∷ []; rest = [] }
  pub reads : read_delta payload ≡ Some ops
  pub taken : (fed role p bytes).session.held ≡ taken_in role p.session.held (set_of ops)

-- one set is the other with what the role takes in of the first so many operations of a delta frame that these bytes end: a giver's is as it was
pub record TakesFirst (role : Role) (p : Point) (bytes : Bytes) (held : Operations) : Type 0 where
  pub ops : List Operation
  pub count : ℕ
  pub is : held ≡ taken_in role p.session.held (set_of (take count ops))
  pub whole : (ops ≡ []) ⊎ EndsDelta role p bytes ops

-- Memory was refused at some of the bytes, which are of one frame that is due: the frames before it have done what they do. Its own frame sent nothing, and of its delta the first so many operations are in, where the role takes any in.
pub record StopsShort (role : Role) (p : Point) (bytes : Bytes) (held : Operations) (sent : Bytes) : Type 0 where
  pub before : Bytes
  pub here : Bytes
  pub after : Bytes
  pub cut : bytes ≡ before ++ (here ++ after)
  pub some : 1 ≤ length here
  pub fits : length here ≤ wanted (fed role p before)
  pub held_is : TakesFirst role (fed role p before) here held
  pub sent_is : sent ≡ (fed role p before).session.sent

-- what a refusal tells of the bytes: it is the fault of a frame that they show, unless memory was refused
abbrev pub Ends : Role → Point → Bytes → SyncError → Operations → Bytes → Type 0
Ends role p bytes fault.OutOfMemory held sent = StopsShort role p bytes held sent
Ends role p bytes fault.Failed held sent = ⊥
Ends role p bytes fault.Cut held sent = ⊥
Ends role p bytes fault.Read held sent = ⊥
Ends role p bytes fault.Write held sent = ⊥
Ends role p bytes fault.Turns held sent = ⊥
Ends role p bytes e held sent = (fed role p bytes).session ≡ ended e held sent

-- ---- standings as numbers and lists

abbrev role_number : Role → ℕ
role_number Client = 0
role_number ClientOfAll = 1
role_number Giver = 2
role_number Server = 3

abbrev number_role : ℕ → Role
number_role n = if n == 0 then Client else if n == 1 then ClientOfAll else if n == 2 then Giver else Server

pub number_role-number : (r : Role) → number_role (role_number r) ≡ r
number_role-number Client = refl
number_role-number ClientOfAll = refl
number_role-number Giver = refl
number_role-number Server = refl

abbrev pub role_code : Coded Role
role_code = code_by ℕ coded_ℕ role_number number_role number_role-number

abbrev fault_number : SyncError → ℕ
fault_number fault.Frame = 0
fault_number fault.Order = 1
fault_number fault.Clock = 2
fault_number fault.Delta = 3
fault_number fault.OutOfMemory = 4
fault_number fault.Failed = 5
fault_number fault.Cut = 6
fault_number fault.Read = 7
fault_number fault.Write = 8
fault_number fault.Turns = 9

abbrev number_fault : ℕ → SyncError
number_fault n =
    if n == 0 then fault.Frame else if n == 1 then fault.Order else if n == 2 then fault.Clock else if n == 3 then fault.Delta else if n == 4 then fault.OutOfMemory
    else if n == 5 then fault.Failed else if n == 6 then fault.Cut else if n == 7 then fault.Read else if n == 8 then fault.Write else fault.Turns

pub number_fault-number : (f : SyncError) → number_fault (fault_number f) ≡ f
number_fault-number fault.Frame = refl
number_fault-number fault.Order = refl
number_fault-number fault.Clock = refl
number_fault-number fault.Delta = refl
number_fault-number fault.OutOfMemory = refl
number_fault-number fault.Failed = refl
number_fault-number fault.Cut = refl
number_fault-number fault.Read = refl
number_fault-number fault.Write = refl
number_fault-number fault.Turns = refl

abbrev pub fault_code : Coded SyncError
fault_code = code_by ℕ coded_ℕ fault_number number_fault number_fault-number

abbrev PhaseCases : Type 0
PhaseCases = (Unit {0} ⊎ Clock) ⊎ (Unit {0} ⊎ (Unit {0} ⊎ SyncError))

abbrev phase_case : Phase → PhaseCases
phase_case AwaitsClock = inl (inl tt)
phase_case (AwaitsDeltas t) = inl (inr t)
phase_case AwaitsEnd = inr (inl tt)
phase_case IsDone = inr (inr (inl tt))
phase_case (HasFailed f) = inr (inr (inr f))

abbrev case_phase : PhaseCases → Phase
case_phase (inl (inl _)) = AwaitsClock
case_phase (inl (inr t)) = AwaitsDeltas t
case_phase (inr (inl _)) = AwaitsEnd
case_phase (inr (inr (inl _))) = IsDone
case_phase (inr (inr (inr f))) = HasFailed f

pub case_phase-case : (phase : Phase) → case_phase (phase_case phase) ≡ phase
case_phase-case AwaitsClock = refl
case_phase-case (AwaitsDeltas t) = refl
case_phase-case AwaitsEnd = refl
case_phase-case IsDone = refl
case_phase-case (HasFailed f) = refl

abbrev pub phase_code : Coded Phase
phase_code = code_by PhaseCases (coded⊎ (coded⊎ coded_unit clock_code) (coded⊎ coded_unit (coded⊎ coded_unit fault_code))) phase_case case_phase case_phase-case

abbrev KeptCases : Type 0
KeptCases = Bytes ⊎ (Bytes × ℕ)

abbrev kept_case : Kept → KeptCases
kept_case (Known bytes) = inl bytes
kept_case (Lost head missing) = inr (head, missing)

abbrev case_kept : KeptCases → Kept
case_kept (inl bytes) = Known bytes
case_kept (inr p) = Lost p.0 p.1

pub case_kept-case : (k : Kept) → case_kept (kept_case k) ≡ k
case_kept-case (Known bytes) = refl
case_kept-case (Lost head missing) = refl

abbrev pub kept_code : Coded Kept
kept_code = code_by KeptCases (coded⊎ (coded_list coded_ℕ) (coded× (coded_list coded_ℕ) coded_ℕ)) kept_case case_kept case_kept-case

abbrev pub standing_code : Coded Standing
standing_code = code_by (Role × (Phase × Kept)) (coded× role_code (coded× phase_code kept_code)) (λ s. (s.role, (s.phase, s.kept))) (λ p. record { role = p.0; phase = p.1.0; kept = p.1.1 }) (λ _. refl)

abbrev pub session_code : Coded (Option Standing)
session_code = coded_option standing_code
