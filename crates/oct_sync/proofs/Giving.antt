-- A giver holds what it held, whatever comes.
use Rattle.std.proofs.Common.{◌≡◌, ◌+◌, Bool, true, false, List, [], ◌∷◌, ◌++◌, length, Option, Some, None, eqb, refl, sym, ap, ◌∙◌}
use Rattle.std.specs.List.{fold}
use Rattle.oct_delta.specs.Clocks.{read_clock}
use Rattle.oct_delta.specs.Decoding.{read_delta}
use Rattle.oct_delta.specs.Text.{Bytes}
use Rattle.oct_join.specs.Clock.{Clock}
use Rattle.oct_ops.specs.Body.{Operation}
use Rattle.oct_ops.specs.Operations.{Operations}
use Rattle.oct_sync.specs.Frames.{Frame, Split, clock_tag, delta_tag, split_frames}
use Rattle.oct_sync.specs.Laws.{GiverStays}
use Rattle.oct_sync.specs.Session.{Phase, AwaitsClock, AwaitsDeltas, AwaitsEnd, IsDone, HasFailed, Session, Point, failed_if, fed, head_fault, on_clock, on_delta, on_due, on_end, on_frame, on_frame_in, on_head, on_rest_in, on_split, rest_fault}
use Rattle.oct_sync.specs.Standing.{Ends}
use Rattle.oct_sync.specs.declared.error.SyncError.{SyncError}
use Rattle.oct_sync.specs.declared.error.SyncError.TheVariants as fault
use Rattle.oct_sync.specs.declared.role.Role.TheVariants.{Giver}

clock_stays : (s : Session) (o : Option Clock) → (on_clock Giver s o).held ≡ s.held
clock_stays s None = refl
clock_stays s (Some t) = refl

delta_stays : (s : Session) (o : Option (List Operation)) → (on_delta Giver s o).held ≡ s.held
delta_stays s None = refl
delta_stays s (Some ops) = refl

end_stays : (s : Session) (phase : Phase) → (on_end Giver s phase).held ≡ s.held
end_stays s AwaitsClock = refl
end_stays s (AwaitsDeltas t) = refl
end_stays s AwaitsEnd = refl
end_stays s IsDone = refl
end_stays s (HasFailed f) = refl

by_tag : (a b : Bool) (held : Operations) (x y z : Session) → x.held ≡ held → y.held ≡ held → z.held ≡ held → (let t : Session = elim a [ true ↦ x | false ↦ elim b [ true ↦ y | false ↦ z ] ] in t.held) ≡ held
by_tag true b held x y z first second third = first
by_tag false true held x y z first second third = second
by_tag false false held x y z first second third = third

due_stays : (s : Session) (f : Frame) → (on_due Giver s f).held ≡ s.held
due_stays s f =
    by_tag (eqb f.tag clock_tag) (eqb f.tag delta_tag) s.held (on_clock Giver s (read_clock f.payload)) (on_delta Giver s (read_delta f.payload)) (on_end Giver s s.phase)
    (clock_stays s (read_clock f.payload)) (delta_stays s (read_delta f.payload)) (end_stays s s.phase)

head_stays : (s : Session) (f : Frame) (o : Option SyncError) → (on_head Giver s f o).held ≡ s.held
head_stays s f (Some shown) = refl
head_stays s f None = due_stays s f

frame_stays : (phase : Phase) (s : Session) (f : Frame) → (on_frame_in phase Giver s f).held ≡ s.held
frame_stays AwaitsClock s f = head_stays s f (head_fault AwaitsClock (1 + length f.payload) f.tag)
frame_stays (AwaitsDeltas t) s f = head_stays s f (head_fault (AwaitsDeltas t) (1 + length f.payload) f.tag)
frame_stays AwaitsEnd s f = head_stays s f (head_fault AwaitsEnd (1 + length f.payload) f.tag)
frame_stays IsDone s f = refl
frame_stays (HasFailed shown) s f = refl

fold_stays : (s : Session) (frames : List Frame) → (fold (on_frame Giver) s frames).held ≡ s.held
fold_stays s [] = refl
fold_stays s (f ∷ frames) = fold_stays (on_frame Giver s f) frames ∙ frame_stays s.phase s f

if_stays : (s : Session) (o : Option SyncError) → (failed_if s o).held ≡ s.held
if_stays s None = refl
if_stays s (Some f) = refl

rest_stays : (phase : Phase) (s : Session) (rest : Bytes) → (on_rest_in phase s rest).held ≡ s.held
rest_stays AwaitsClock s rest = if_stays s (rest_fault AwaitsClock rest)
rest_stays (AwaitsDeltas t) s rest = if_stays s (rest_fault (AwaitsDeltas t) rest)
rest_stays AwaitsEnd s rest = if_stays s (rest_fault AwaitsEnd rest)
rest_stays IsDone s [] = refl
rest_stays IsDone s (b ∷ rest) = refl
rest_stays (HasFailed f) s rest = refl

split_stays : (s : Session) (split : Split) → (on_split Giver s split).held ≡ s.held
split_stays s split = let t : Session = fold (on_frame Giver) s split.frames in rest_stays t.phase t split.rest ∙ fold_stays s split.frames

fed_stays : (p : Point) (bytes : Bytes) → (fed Giver p bytes).session.held ≡ p.session.held
fed_stays p bytes = split_stays p.session (split_frames (p.rest ++ bytes))

ends_stays : (p : Point) (bytes : Bytes) (e : SyncError) (held : Operations) (sent : Bytes) → Ends Giver p bytes e held sent → held ≡ p.session.held
ends_stays p bytes fault.Frame held sent h = sym (ap (λ (s : Session). s.held) h) ∙ fed_stays p bytes
ends_stays p bytes fault.Order held sent h = sym (ap (λ (s : Session). s.held) h) ∙ fed_stays p bytes
ends_stays p bytes fault.Clock held sent h = sym (ap (λ (s : Session). s.held) h) ∙ fed_stays p bytes
ends_stays p bytes fault.Delta held sent h = sym (ap (λ (s : Session). s.held) h) ∙ fed_stays p bytes
ends_stays p bytes fault.OutOfMemory held sent h = h.held_is.is ∙ fed_stays p h.before
ends_stays p bytes fault.Failed held sent h = absurd h
ends_stays p bytes fault.Cut held sent h = absurd h
ends_stays p bytes fault.Read held sent h = absurd h
ends_stays p bytes fault.Write held sent h = absurd h
ends_stays p bytes fault.Turns held sent h = absurd h

pub giver_stays : GiverStays
giver_stays = record { is = fed_stays; ends = ends_stays }
