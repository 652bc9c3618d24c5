-- Bytes that come in two pieces do what they do in one.
use Rattle.std.proofs.Common.{◌≡◌, ℕ, ◌+◌, ◌-◌, Bool, true, false, List, [], ◌∷◌, ◌++◌, length, take, drop, leb, Option, Some, None, refl, sym, ap, ◌∙◌, append_assoc, arith}
use Rattle.std.proofs.lemmas.Bool.{leb-true, le-leb}
use Rattle.std.proofs.lemmas.List.{length-drop, length-take-le}
use Rattle.std.proofs.lemmas.List.Sums.{fold-append}
use Rattle.std.specs.List.{fold}
use Rattle.oct_delta.specs.Text.{Bytes}
use Rattle.oct_ops.specs.Operations.{Operations}
use Rattle.oct_sync.specs.Frames.{Frame, Split, length_field, tag_field, is_length, begins_whole, first_frame, split_within, split_frames}
use Rattle.oct_sync.specs.Laws.{AnyCutting}
use Rattle.oct_sync.specs.Session.{Phase, AwaitsClock, AwaitsDeltas, AwaitsEnd, IsDone, HasFailed, Session, failed, failed_if, head_fault, on_head, on_frame, on_frame_in, on_rest_in, on_split, rest_fault}
use Rattle.oct_sync.specs.declared.error.SyncError.{SyncError}
use Rattle.oct_sync.specs.declared.error.SyncError.TheVariants as fault
use Rattle.oct_sync.specs.declared.role.Role.{Role}
use Rattle.oct_sync.proofs.Splitting.{IsWhole, step, whole_parts, longer, field-append, tag-append, split_is, joined, split_append}

-- ---- after a fault nothing changes

pub fold_failed : (role : Role) (s : Session) (f : SyncError) (frames : List Frame) → fold (on_frame role) (failed s f) frames ≡ failed s f
fold_failed role s f [] = refl
fold_failed role s f (g ∷ frames) = fold_failed role s f frames

pub split_failed : (role : Role) (s : Session) (f : SyncError) (split : Split) → on_split role (failed s f) split ≡ failed s f
split_failed role s f split = ap (λ (t : Session). on_rest_in t.phase t split.rest) (fold_failed role s f split.frames)

-- ---- the fault that first bytes show

abbrev pub shown : Bool → Bool → Bool → Option SyncError → Option SyncError
shown long is longer head = elim long [ false ↦ None | true ↦ elim is [ false ↦ Some fault.Frame | true ↦ elim longer [ false ↦ None | true ↦ head ] ] ]

still_shown : (a b c a' b' c' : Bool) (h h' : Option SyncError) (f : SyncError) → (a ≡ true → a' ≡ true) → (a ≡ true → b' ≡ b) → (c ≡ true → c' ≡ true) → (c ≡ true → h' ≡ h) → shown a b c h ≡ Some f → shown a' b' c' h' ≡ Some f
still_shown false b c a' b' c' h h' f long is more head e = cc
still_shown true false c a' b' c' h h' f long is more head e = (λ i. shown (long refl i) (is refl i) c' h') ∙ e
still_shown true true false a' b' c' h h' f long is more head e = cc
still_shown true true true a' b' c' h h' f long is more head e = (λ i. shown (long refl i) (is refl i) (more refl i) (head refl i)) ∙ e

fault-append : (phase : Phase) (r y : Bytes) (f : SyncError) → rest_fault phase r ≡ Some f → rest_fault phase (r ++ y) ≡ Some f
fault-append phase r y f e =
    still_shown (leb 4 (length r)) (is_length (length_field r)) (leb 5 (length r)) (leb 4 (length (r ++ y))) (is_length (length_field (r ++ y))) (leb 5 (length (r ++ y)))
    (head_fault phase (length_field r) (tag_field r)) (head_fault phase (length_field (r ++ y)) (tag_field (r ++ y))) f
    (λ four. le-leb 4 (length (r ++ y)) (longer r y 4 (leb-true 4 (length r) four)))
    (λ four. ap is_length (field-append r y (leb-true 4 (length r) four)))
    (λ five. le-leb 5 (length (r ++ y)) (longer r y 5 (leb-true 5 (length r) five)))
    (λ five. let long = leb-true 5 (length r) five in λ i. head_fault phase (field-append r y (omega (arith, long)) i) (tag-append r y long i)) e

-- a whole frame with a fault in its head shows it too
head_shown : (a b c : Bool) (h : Option SyncError) (f : SyncError) → a ≡ true → b ≡ true → c ≡ true → shown a b c h ≡ Some f → h ≡ Some f
head_shown a b c h f long is more e = sym (λ i. shown (long i) (is i) (more i) h) ∙ e

pub payload_length : (b : Bytes) → IsWhole b → 1 + length (take (length_field b - 1) (drop 5 b)) ≡ length_field b
payload_length b w =
    let long = w.long in
    let some = w.some in
    let fits = w.fits in
    let left : length (drop 5 b) ≡ length b - 5 = length-drop 5 b in
    let taken : length (take (length_field b - 1) (drop 5 b)) ≡ length_field b - 1 = length-take-le (length_field b - 1) (drop 5 b) (omega (arith, left, long, some, fits)) in
    omega (arith, taken, some)

whole_fault : (phase : Phase) (b : Bytes) (f : SyncError) → IsWhole b → rest_fault phase b ≡ Some f → head_fault phase (1 + length (take (length_field b - 1) (drop 5 b))) (tag_field b) ≡ Some f
whole_fault phase b f w e =
    let long = w.long in
    ap (λ n. head_fault phase n (tag_field b)) (payload_length b w)
    ∙ head_shown (leb 4 (length b)) (is_length (length_field b)) (leb 5 (length b)) (head_fault phase (length_field b) (tag_field b)) f
    (le-leb 4 (length b) (omega (arith, long))) w.is (le-leb 5 (length b) long) e

-- ---- a rest with a fault, and more bytes

-- a phase in which frames are due
pub record IsOpen (role : Role) (t : Session) : Type 0 where
  pub frame : (g : Frame) → on_frame role t g ≡ on_head role t g (head_fault t.phase (1 + length g.payload) g.tag)
  pub rest : (r : Bytes) → on_rest_in t.phase t r ≡ failed_if t (rest_fault t.phase r)

abbrev begun_with : Role → Session → Bytes → Bool → Session
begun_with role t b whole = on_split role t (step (length b) b whole)

pub open_fails : (role : Role) (t : Session) (b : Bytes) (f : SyncError) → IsOpen role t → rest_fault t.phase b ≡ Some f → on_split role t (split_frames b) ≡ failed t f
open_fails role t b f is e =
    ap (on_split role t) (split_is b)
    ∙ elim (begins_whole b) as (λ whole. begins_whole b ≡ whole → begun_with role t b whole ≡ failed t f) [
      | true ↦ λ whole.
          let w = whole_parts b whole in
          let later = split_within (length b) (drop (4 + length_field b) b) in
          let at_once : on_frame role t (first_frame b) ≡ failed t f = is.frame (first_frame b) ∙ ap (on_head role t (first_frame b)) (whole_fault t.phase b f w e) in
          ap (λ u. on_split role u later) at_once ∙ split_failed role t f later
      | false ↦ λ _. is.rest b ∙ ap (failed_if t) e
    ] refl

open_persists : (role : Role) (t : Session) (r y : Bytes) → IsOpen role t → on_split role (on_rest_in t.phase t r) (split_frames (r ++ y)) ≡ on_split role t (split_frames (r ++ y))
open_persists role t r y is =
    ap (λ u. on_split role u (split_frames (r ++ y))) (is.rest r)
    ∙ elim (rest_fault t.phase r) as (λ o. rest_fault t.phase r ≡ o → on_split role (failed_if t o) (split_frames (r ++ y)) ≡ on_split role t (split_frames (r ++ y))) [
      | None ↦ λ _. refl
      | Some f ↦ λ e. split_failed role t f (split_frames (r ++ y)) ∙ sym (open_fails role t (r ++ y) f is (fault-append t.phase r y f e))
    ] refl

-- after the end each byte is out of order
pub done_fails : (role : Role) (t : Session) (b : ℕ) (bytes : Bytes) → t.phase ≡ IsDone → on_split role t (split_frames (b ∷ bytes)) ≡ failed t fault.Order
done_fails role t b bytes done =
    ap (on_split role t) (split_is (b ∷ bytes))
    ∙ elim (begins_whole (b ∷ bytes)) as (λ whole. begun_with role t (b ∷ bytes) whole ≡ failed t fault.Order) [
      | true ↦
          let later = split_within (length (b ∷ bytes)) (drop (4 + length_field (b ∷ bytes)) (b ∷ bytes)) in
          ap (λ u. on_split role u later) (ap (λ phase. on_frame_in phase role t (first_frame (b ∷ bytes))) done) ∙ split_failed role t fault.Order later
      | false ↦ ap (λ phase. on_rest_in phase t (b ∷ bytes)) done
    ]

persists_in : (phase : Phase) (role : Role) (held : Operations) (sent r y : Bytes) → let t : Session = record { phase = phase; held = held; sent = sent } in
    on_split role (on_rest_in phase t r) (split_frames (r ++ y)) ≡ on_split role t (split_frames (r ++ y))
persists_in AwaitsClock role held sent r y = open_persists role _ r y (record { frame = λ g. refl; rest = λ r. refl })
persists_in (AwaitsDeltas clock) role held sent r y = open_persists role _ r y (record { frame = λ g. refl; rest = λ r. refl })
persists_in AwaitsEnd role held sent r y = open_persists role _ r y (record { frame = λ g. refl; rest = λ r. refl })
persists_in IsDone role held sent [] y = refl
persists_in IsDone role held sent (b ∷ r) y =
    let t : Session = record { phase = IsDone; held = held; sent = sent } in
    split_failed role t fault.Order (split_frames (b ∷ r ++ y)) ∙ sym (done_fails role t b (r ++ y) refl)
persists_in (HasFailed f) role held sent r y = refl

persists : (role : Role) (t : Session) (r y : Bytes) → on_split role (on_rest_in t.phase t r) (split_frames (r ++ y)) ≡ on_split role t (split_frames (r ++ y))
persists role t r y = persists_in t.phase role t.held t.sent r y

-- ---- the law

pub any_cutting : AnyCutting
any_cutting role p x y =
    let first : Split = split_frames (p.rest ++ x) in
    let second : Split = split_frames (first.rest ++ y) in
    let t : Session = fold (on_frame role) p.session first.frames in
    let whole : split_frames (p.rest ++ (x ++ y)) ≡ joined first y = ap split_frames (sym (append_assoc p.rest x y)) ∙ split_append (p.rest ++ x) y in
    let session : on_split role (on_split role p.session first) second ≡ on_split role p.session (joined first y) =
    persists role t first.rest y ∙ sym (ap (λ (u : Session). on_rest_in u.phase u second.rest) (fold-append (on_frame role) p.session first.frames second.frames)) in
    λ i. record { session = (session ∙ ap (on_split role p.session) (sym whole)) i; rest = sym (ap (λ (s : Split). s.rest) whole) i }
