-- What was sent before stays in front of what is sent.
use Rattle.std.proofs.Common.{◌≡◌, ◌+◌, length, Bool, true, false, List, [], ◌∷◌, ◌++◌, Option, Some, None, refl, ap, ◌∙◌, append_assoc, eqb}
use Rattle.std.specs.List.{fold}
use Rattle.oct_delta.specs.Clocks.{read_clock}
use Rattle.oct_delta.specs.Decoding.{read_delta}
use Rattle.oct_delta.specs.Text.{Bytes}
use Rattle.oct_join.specs.Clock.{Clock}
use Rattle.oct_ops.specs.Body.{Operation}
use Rattle.oct_sync.specs.Frames.{Frame, Split, clock_tag, delta_tag, end_frame, split_frames}
use Rattle.oct_sync.specs.Session.{Phase, AwaitsClock, AwaitsDeltas, AwaitsEnd, IsDone, HasFailed, Session, clock_frame, missing_frames, failed_if, fed, head_fault, on_clock, on_delta, on_due, on_end, on_frame, on_frame_in, on_head, on_rest_in, on_split, rest_fault}
use Rattle.oct_sync.specs.declared.error.SyncError.{SyncError}
use Rattle.oct_sync.specs.declared.role.Role.{Role}
use Rattle.oct_sync.specs.declared.role.Role.TheVariants.{Client, ClientOfAll, Giver, Server}

-- the session with something sent before all that it sent
abbrev pub past : Bytes → Session → Session
past front s = record s { sent = front ++ s.sent }

module _ (front : Bytes) where
  clock_past : (role : Role) (s : Session) (o : Option Clock) → on_clock role (past front s) o ≡ past front (on_clock role s o)
  clock_past Client s None = refl
  clock_past ClientOfAll s None = refl
  clock_past Giver s None = refl
  clock_past Server s None = refl
  clock_past Client s (Some t) = refl
  clock_past ClientOfAll s (Some t) = refl
  clock_past Giver s (Some t) = refl
  clock_past Server s (Some t) = ap (λ sent. record s { phase = AwaitsDeltas t; sent = sent })
      (ap (λ z. z ++ missing_frames s.held t) (append_assoc front s.sent (clock_frame s.held)) ∙ append_assoc front (s.sent ++ clock_frame s.held) (missing_frames s.held t))

  delta_past : (role : Role) (s : Session) (o : Option (List Operation)) → on_delta role (past front s) o ≡ past front (on_delta role s o)
  delta_past role s None = refl
  delta_past role s (Some ops) = refl

  end_past : (role : Role) (s : Session) (phase : Phase) → on_end role (past front s) phase ≡ past front (on_end role s phase)
  end_past Client s AwaitsClock = refl
  end_past Client s (AwaitsDeltas t) = ap (λ sent. record s { phase = AwaitsEnd; sent = sent }) (append_assoc front s.sent (missing_frames s.held t))
  end_past Client s AwaitsEnd = refl
  end_past Client s IsDone = refl
  end_past Client s (HasFailed f) = refl
  end_past ClientOfAll s AwaitsClock = refl
  end_past ClientOfAll s (AwaitsDeltas t) = ap (λ sent. record s { phase = AwaitsEnd; sent = sent }) (append_assoc front s.sent (missing_frames s.held t))
  end_past ClientOfAll s AwaitsEnd = refl
  end_past ClientOfAll s IsDone = refl
  end_past ClientOfAll s (HasFailed f) = refl
  end_past Giver s AwaitsClock = refl
  end_past Giver s (AwaitsDeltas t) = ap (λ sent. record s { phase = AwaitsEnd; sent = sent }) (append_assoc front s.sent (missing_frames s.held t))
  end_past Giver s AwaitsEnd = refl
  end_past Giver s IsDone = refl
  end_past Giver s (HasFailed f) = refl
  end_past Server s AwaitsClock = refl
  end_past Server s (AwaitsDeltas t) = ap (λ sent. record s { phase = IsDone; sent = sent }) (append_assoc front s.sent end_frame)
  end_past Server s AwaitsEnd = refl
  end_past Server s IsDone = refl
  end_past Server s (HasFailed f) = refl

  by_tag : (a b : Bool) (x y z : Session) → elim a [ true ↦ past front x | false ↦ elim b [ true ↦ past front y | false ↦ past front z ] ] ≡ past front (elim a [ true ↦ x | false ↦ elim b [ true ↦ y | false ↦ z ] ])
  by_tag true b x y z = refl
  by_tag false true x y z = refl
  by_tag false false x y z = refl

  due_past : (role : Role) (s : Session) (f : Frame) → on_due role (past front s) f ≡ past front (on_due role s f)
  due_past role s f =
      (λ i. elim (eqb f.tag clock_tag) [ true ↦ clock_past role s (read_clock f.payload) i | false ↦ elim (eqb f.tag delta_tag) [ true ↦ delta_past role s (read_delta f.payload) i | false ↦ end_past role s s.phase i ] ])
      ∙ by_tag (eqb f.tag clock_tag) (eqb f.tag delta_tag) (on_clock role s (read_clock f.payload)) (on_delta role s (read_delta f.payload)) (on_end role s s.phase)

  head_past : (role : Role) (s : Session) (f : Frame) (o : Option SyncError) → on_head role (past front s) f o ≡ past front (on_head role s f o)
  head_past role s f (Some shown) = refl
  head_past role s f None = due_past role s f

  frame_past : (phase : Phase) (role : Role) (s : Session) (f : Frame) → on_frame_in phase role (past front s) f ≡ past front (on_frame_in phase role s f)
  frame_past AwaitsClock role s f = head_past role s f (head_fault AwaitsClock (1 + length f.payload) f.tag)
  frame_past (AwaitsDeltas t) role s f = head_past role s f (head_fault (AwaitsDeltas t) (1 + length f.payload) f.tag)
  frame_past AwaitsEnd role s f = head_past role s f (head_fault AwaitsEnd (1 + length f.payload) f.tag)
  frame_past IsDone role s f = refl
  frame_past (HasFailed shown) role s f = refl

  fold_past : (role : Role) (s : Session) (frames : List Frame) → fold (on_frame role) (past front s) frames ≡ past front (fold (on_frame role) s frames)
  fold_past role s [] = refl
  fold_past role s (f ∷ frames) = ap (λ t. fold (on_frame role) t frames) (frame_past s.phase role s f) ∙ fold_past role (on_frame role s f) frames

  if_past : (s : Session) (o : Option SyncError) → failed_if (past front s) o ≡ past front (failed_if s o)
  if_past s None = refl
  if_past s (Some f) = refl

  rest_past : (phase : Phase) (s : Session) (rest : Bytes) → on_rest_in phase (past front s) rest ≡ past front (on_rest_in phase s rest)
  rest_past AwaitsClock s rest = if_past s (rest_fault AwaitsClock rest)
  rest_past (AwaitsDeltas t) s rest = if_past s (rest_fault (AwaitsDeltas t) rest)
  rest_past AwaitsEnd s rest = if_past s (rest_fault AwaitsEnd rest)
  rest_past IsDone s [] = refl
  rest_past IsDone s (b ∷ rest) = refl
  rest_past (HasFailed f) s rest = refl

  split_past : (role : Role) (s : Session) (split : Split) → on_split role (past front s) split ≡ past front (on_split role s split)
  split_past role s split =
      ap (λ (t : Session). on_rest_in t.phase t split.rest) (fold_past role s split.frames)
      ∙ rest_past (fold (on_frame role) s split.frames).phase (fold (on_frame role) s split.frames) split.rest

  pub fed_past : (role : Role) (s : Session) (rest bytes : Bytes) → fed role (record { session = past front s; rest = rest }) bytes ≡ record { session = past front (fed role (record { session = s; rest = rest }) bytes).session; rest = (fed role (record { session = s; rest = rest }) bytes).rest }
  fed_past role s rest bytes = λ i. record { session = split_past role s (split_frames (rest ++ bytes)) i; rest = (split_frames (rest ++ bytes)).rest }
