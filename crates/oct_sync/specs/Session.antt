-- What the two sides of a session hold and send, by the bytes that they received.
use Rattle.std.specs.Prelude.{ℕ, ◌+◌, ◌-◌, Bool, true, false, ◌&&◌, ◌||◌, ◌==◌, nat_le, nat_lt, List, [], ◌∷◌, ◌++◌, length, take, Option, Some, None}
use Rattle.std.specs.List.{fold}
use Rattle.oct_ops.specs.Body.{Operation}
use Rattle.oct_ops.specs.Operations.{Operations, empty, listed, union, set_of}
use Rattle.oct_join.specs.Clock.{Clock, entries, empty as empty_clock}
use Rattle.oct_delta.specs.Clocks.{entries_bytes, read_clock}
use Rattle.oct_delta.specs.Decoding.{read_delta}
use Rattle.oct_delta.specs.Text.{Bytes}
use Rattle.oct_store.specs.Summary.{clock_of, beyond}
use Rattle.oct_sync.specs.Frames.{Frame, Split, frame_bytes, end_frame, delta_frames, clock_tag, delta_tag, end_tag, is_length, length_field, tag_field, split_frames}
use Rattle.oct_sync.specs.declared.error.SyncError.{SyncError}
use Rattle.oct_sync.specs.declared.error.SyncError.TheVariants as fault
use Rattle.oct_sync.specs.declared.role.Role.{Role}
use Rattle.oct_sync.specs.declared.role.Role.TheVariants.{Client, ClientOfAll, Giver, Server}

-- which frames are due: a clock; deltas and an end, where the other side is answered as one with this clock; an end; or none
pub data Phase : Type 0 where
  AwaitsClock : Phase
  AwaitsDeltas : Clock → Phase
  AwaitsEnd : Phase
  IsDone : Phase
  HasFailed : SyncError → Phase

pub record Session : Type 0 where
  pub phase : Phase
  pub held : Operations
  pub sent : Bytes

-- ---- what is sent

-- the most authors of a clock that is sent
abbrev pub max_authors : ℕ
max_authors = 65536

-- the clock of the set, cut to its first authors
abbrev pub clock_frame : Operations → Bytes
clock_frame held = frame_bytes clock_tag (entries_bytes (take max_authors (entries (clock_of (listed held)))))

-- the clock frame of a side that says that it has nothing
abbrev pub empty_clock_frame : Bytes
empty_clock_frame = frame_bytes clock_tag (entries_bytes [])

-- what a side says by its clock that it has: one that sends all says that it has nothing
abbrev pub said : Role → Operations → Operations
said Client held = held
said ClientOfAll held = empty
said Giver held = held
said Server held = held

-- the operations that a clock does not cover, and an end
abbrev pub missing_frames : Operations → Clock → Bytes
missing_frames held t = delta_frames (listed (beyond held t)) ++ end_frame

-- ---- what a whole frame does

abbrev pub is_due : Phase → ℕ → Bool
is_due AwaitsClock tag = tag == clock_tag
is_due (AwaitsDeltas t) tag = (tag == delta_tag) || (tag == end_tag)
is_due AwaitsEnd tag = tag == end_tag
is_due IsDone tag = false
is_due (HasFailed f) tag = false

-- a frame of this length may have the tag
abbrev pub is_head : ℕ → ℕ → Bool
is_head n tag = (tag == clock_tag) || ((tag == delta_tag) || ((tag == end_tag) && (n == 1)))

abbrev pub failed : Session → SyncError → Session
failed s f = record s { phase = HasFailed f }

abbrev pub on_clock : Role → Session → Option Clock → Session
on_clock role s None = failed s fault.Clock
on_clock Client s (Some t) = record s { phase = AwaitsDeltas t }
on_clock ClientOfAll s (Some t) = record s { phase = AwaitsDeltas empty_clock }
on_clock Giver s (Some t) = record s { phase = AwaitsDeltas t }
on_clock Server s (Some t) = record s { phase = AwaitsDeltas t; sent = s.sent ++ clock_frame s.held ++ missing_frames s.held t }

-- what a side holds once these came: a giver takes nothing in
abbrev pub taken_in : Role → Operations → Operations → Operations
taken_in Client held new = union held new
taken_in ClientOfAll held new = union held new
taken_in Giver held new = held
taken_in Server held new = union held new

abbrev pub on_delta : Role → Session → Option (List Operation) → Session
on_delta role s None = failed s fault.Delta
on_delta role s (Some ops) = record s { held = taken_in role s.held (set_of ops) }

abbrev pub on_end : Role → Session → Phase → Session
on_end Client s (AwaitsDeltas t) = record s { phase = AwaitsEnd; sent = s.sent ++ missing_frames s.held t }
on_end ClientOfAll s (AwaitsDeltas t) = record s { phase = AwaitsEnd; sent = s.sent ++ missing_frames s.held t }
on_end Giver s (AwaitsDeltas t) = record s { phase = AwaitsEnd; sent = s.sent ++ missing_frames s.held t }
on_end Server s (AwaitsDeltas t) = record s { phase = IsDone; sent = s.sent ++ end_frame }
on_end role s phase = record s { phase = IsDone }

abbrev pub on_due : Role → Session → Frame → Session
on_due role s f =
    elim (f.tag == clock_tag) [
      | true ↦ on_clock role s (read_clock f.payload)
      | false ↦ elim (f.tag == delta_tag) [ true ↦ on_delta role s (read_delta f.payload) | false ↦ on_end role s s.phase ]
    ]

-- the fault that a frame's length and tag show
abbrev pub head_fault : Phase → ℕ → ℕ → Option SyncError
head_fault phase n tag = elim (is_head n tag) [
  | false ↦ Some fault.Frame
  | true ↦ elim (is_due phase tag) [ true ↦ None | false ↦ Some fault.Order ]
]

abbrev pub on_head : Role → Session → Frame → Option SyncError → Session
on_head role s f (Some shown) = failed s shown
on_head role s f None = on_due role s f

-- after the end a frame is out of order, whatever it is, and after a fault it has no meaning
abbrev pub on_frame_in : Phase → Role → Session → Frame → Session
on_frame_in IsDone role s f = failed s fault.Order
on_frame_in (HasFailed shown) role s f = s
on_frame_in phase role s f = on_head role s f (head_fault phase (1 + length f.payload) f.tag)

abbrev pub on_frame : Role → Session → Frame → Session
on_frame role s f = on_frame_in s.phase role s f

-- ---- what the bytes after the last whole frame do

-- the fault that the first bytes of a frame show: its length with the fourth byte, its tag with the fifth
abbrev pub rest_fault : Phase → Bytes → Option SyncError
rest_fault phase rest = elim (nat_le 4 (length rest)) [
  | false ↦ None
  | true ↦ elim (is_length (length_field rest)) [
    | false ↦ Some fault.Frame
    | true ↦ elim (nat_le 5 (length rest)) [ false ↦ None | true ↦ head_fault phase (length_field rest) (tag_field rest) ]
  ]
]

abbrev pub failed_if : Session → Option SyncError → Session
failed_if s None = s
failed_if s (Some f) = failed s f

abbrev pub on_rest_in : Phase → Session → Bytes → Session
on_rest_in (HasFailed f) s rest = s
on_rest_in IsDone s [] = s
on_rest_in IsDone s (b ∷ rest) = failed s fault.Order
on_rest_in phase s rest = failed_if s (rest_fault phase rest)

-- ---- the whole

abbrev pub on_split : Role → Session → Split → Session
on_split role s split =
    let t = fold (on_frame role) s split.frames in
    on_rest_in t.phase t split.rest

-- a session that begins with these bytes
abbrev pub received : Role → Session → Bytes → Session
received role s bytes = on_split role s (split_frames bytes)

abbrev pub new_client : Operations → Session
new_client held = record { phase = AwaitsClock; held = held; sent = clock_frame held }

abbrev pub new_client_of_all : Operations → Session
new_client_of_all held = record { phase = AwaitsClock; held = held; sent = empty_clock_frame }

abbrev pub new_giver : Operations → Session
new_giver held = record { phase = AwaitsClock; held = held; sent = clock_frame held }

abbrev pub new_server : Operations → Session
new_server held = record { phase = AwaitsClock; held = held; sent = [] }

-- a client that held this set and received these bytes
abbrev pub client : Operations → Bytes → Session
client held bytes = received Client (new_client held) bytes

-- a server that held this set and received these bytes
abbrev pub server : Operations → Bytes → Session
server held bytes = received Server (new_server held) bytes

-- ---- in pieces

-- a session, and the bytes that it received after the last whole frame
pub record Point : Type 0 where
  pub session : Session
  pub rest : Bytes

-- a session that received more bytes
abbrev pub fed : Role → Point → Bytes → Point
fed role p bytes = let split = split_frames (p.rest ++ bytes) in record { session = on_split role p.session split; rest = split.rest }

-- how many bytes are missing to the end of a frame's first five bytes, or of its payload
abbrev pub missing_bytes : Bytes → ℕ
missing_bytes rest = elim (nat_lt (length rest) 5) [ true ↦ 5 - length rest | false ↦ 4 + length_field rest - length rest ]

-- the same, and none where the session is done or has failed
abbrev pub wanted_in : Phase → Bytes → ℕ
wanted_in IsDone rest = 0
wanted_in (HasFailed f) rest = 0
wanted_in phase rest = missing_bytes rest

-- how many bytes a session wants
abbrev pub wanted : Point → ℕ
wanted p = wanted_in p.session.phase p.rest
