-- What the bytes of one frame do, as they come.
use Rattle.std.proofs.Common.{◌≡◌, ℕ, zero, suc, ◌+◌, ◌-◌, ◌<◌, ◌≤◌, Bool, true, false, ◌&&◌, [], ◌∷◌, ◌++◌, length, take, drop, leb, ltb, Option, Some, None, refl, sym, ap, ◌∙◌, subst, inl, arith}
use Rattle.std.proofs.lemmas.Bool.{leb-true, leb-false, le-leb}
use Rattle.std.proofs.lemmas.List.{length-drop, length-append, take_all, drop_all, append-nil}
use Rattle.std.proofs.Math.Seq.{drop-append_seam}
use Rattle.oct_delta.specs.Bytes.{IsBytes}
use Rattle.oct_delta.specs.Text.{Bytes}
use Rattle.oct_ops.specs.Operations.{Operations}
use Rattle.oct_sync.specs.Frames.{Frame, Split, delta_tag, length_field, tag_field, is_length, begins_whole, split_within, split_frames}
use Rattle.oct_sync.specs.Session.{wanted_in as phase_wants}
use Rattle.oct_sync.specs.Session.{wanted, Phase, AwaitsClock, AwaitsDeltas, AwaitsEnd, IsDone, HasFailed, Session, Point, failed_if, fed, head_fault, is_due, is_head, missing_bytes, on_due, on_frame, on_head, on_rest_in, on_split, rest_fault}
use Rattle.oct_sync.specs.SessionState.{Fails, Stops, IsCounted, IsDeltaFront, IsFront, IsIncoming, IsOpenPhase, IsSessionState, IsWholeFrame, kept_by, kept_of, kept_of_delta, missing_of, phase_of, point, standing_of, wanted_by, wanted_in}
use Rattle.oct_sync.specs.declared.state.Due.{Due}
use Rattle.oct_sync.specs.declared.state.Due.TheVariants as due
use Rattle.oct_sync.specs.declared.state.Incoming.{Incoming}
use Rattle.oct_sync.specs.declared.state.Incoming.TheVariants as incoming
use Rattle.oct_sync.specs.declared.state.SessionState.{SessionState}
use Rattle.oct_sync.specs.Standing.{Kept, Known, Standing, IsAt, IsRest, ended}
use Rattle.oct_sync.specs.declared.error.SyncError.{SyncError}
use Rattle.oct_sync.specs.declared.error.SyncError.TheVariants as fault
use Rattle.oct_sync.specs.declared.role.Role.{Role}
use Rattle.oct_sync.proofs.Cutting.{IsOpen, open_fails, shown}
use Rattle.oct_sync.proofs.Taking.{taken_none}
use Rattle.oct_sync.proofs.Splitting.{whole_parts, parts_whole, step, with_first, split_is, field-append, tag-append}

-- ---- open phases

opened : (phase : Phase) (role : Role) (held : Operations) (sent : Bytes) → IsOpenPhase phase → IsOpen role (record { phase = phase; held = held; sent = sent })
opened AwaitsClock role held sent h = record { frame = λ g. refl; rest = λ r. refl }
opened (AwaitsDeltas t) role held sent h = record { frame = λ g. refl; rest = λ r. refl }
opened AwaitsEnd role held sent h = record { frame = λ g. refl; rest = λ r. refl }
opened IsDone role held sent h = absurd h
opened (HasFailed f) role held sent h = absurd h

rest_nothing : (phase : Phase) (s : Session) → on_rest_in phase s [] ≡ s
rest_nothing AwaitsClock s = refl
rest_nothing (AwaitsDeltas t) s = refl
rest_nothing AwaitsEnd s = refl
rest_nothing IsDone s = refl
rest_nothing (HasFailed f) s = refl

split_nothing : (fuel : ℕ) → split_within fuel [] ≡ record { frames = []; rest = [] }
split_nothing zero = refl
split_nothing (suc fuel) = refl

pub not_done : (phase : Phase) {X : Type 0} → IsOpenPhase phase → phase ≡ IsDone → X
not_done phase is e = absurd (subst IsOpenPhase e is)

-- where bytes are wanted some frame is due
pub open_where : {A : Type 0} (phase : Phase) (frame : Incoming A) (n : ℕ) → 0 < n → n ≤ wanted_in phase frame → IsOpenPhase phase
open_where AwaitsClock frame n some fits = tt
open_where (AwaitsDeltas t) frame n some fits = tt
open_where AwaitsEnd frame n some fits = tt
open_where IsDone frame n some fits = absurd (omega (arith, some, fits))
open_where (HasFailed f) frame n some fits = absurd (omega (arith, some, fits))

-- ---- a point after more bytes

after_split : Role → Session → Split → Point
after_split role s split = record { session = on_split role s split; rest = split.rest }

-- a whole frame has some length
w_some : (phase : Phase) (b : Bytes) → IsWholeFrame phase b → 1 ≤ length_field b
w_some phase b w = let long = w.long in let ends = w.ends in omega (arith, long, ends)

begun : (phase : Phase) (b : Bytes) → IsWholeFrame phase b → begins_whole b ≡ true
begun phase b w = parts_whole b (record { long = w.long; is = w.is; some = w_some phase b w; fits = let ends = w.ends in omega (arith, ends) })

-- one frame, and nothing after it
pub split_whole : (phase : Phase) (b : Bytes) → IsWholeFrame phase b → split_frames b ≡ record { frames = record { tag = tag_field b; payload = drop 5 b } ∷ []; rest = [] }
split_whole phase b w =
    let long = w.long in
    let ends = w.ends in
    let left : length (drop 5 b) ≡ length b - 5 = length-drop 5 b in
    let payload : take (length_field b - 1) (drop 5 b) ≡ drop 5 b = take_all (length_field b - 1) (drop 5 b) (omega (arith, left, ends)) in
    let nothing : drop (4 + length_field b) b ≡ [] = drop_all (4 + length_field b) b (omega (arith, ends)) in
    split_is b ∙ ap (step (length b) b) (begun phase b w)
    ∙ (λ i. with_first (record { tag = tag_field b; payload = payload i }) (split_within (length b) (nothing i)))
    ∙ ap (with_first (record { tag = tag_field b; payload = drop 5 b })) (split_nothing (length b))

module _ (role : Role) (phase : Phase) (held : Operations) (sent r y b : Bytes) (is_open : IsOpenPhase phase) (whole : r ++ y ≡ b) where
  abbrev now : Session
  now = record { phase = phase; held = held; sent = sent }

  -- a frame is not yet whole, and shows no fault
  pub fed_front : begins_whole b ≡ false → rest_fault phase b ≡ None → fed role (point phase held sent r) y ≡ point phase held sent b
  unfolding after_split
  fed_front unfinished faultless =
      let is = opened phase role held sent is_open in
      ap (after_split role now) (ap split_frames whole ∙ split_is b ∙ ap (step (length b) b) unfinished)
      ∙ (λ i. record { session = (is.rest b ∙ ap (failed_if now) faultless) i; rest = b })

  -- a frame is whole
  pub fed_whole : (u : Session) → IsWholeFrame phase b → on_due role now (record { tag = tag_field b; payload = drop 5 b }) ≡ u → fed role (point phase held sent r) y ≡ record { session = u; rest = [] }
  unfolding after_split
  fed_whole u w does =
      let is = opened phase role held sent is_open in
      let long = w.long in
      let ends = w.ends in
      let left : length (drop 5 b) ≡ length b - 5 = length-drop 5 b in
      let f : Frame = record { tag = tag_field b; payload = drop 5 b } in
      let some : 1 ≤ length_field b = w_some phase b w in
      let counted : 1 + length (drop 5 b) ≡ length_field b = omega (arith, left, ends, some) in
      let acts : on_frame role now f ≡ u = is.frame f ∙ ap (λ n. on_head role now f (head_fault phase n (tag_field b))) counted ∙ ap (on_head role now f) w.due ∙ does in
      ap (after_split role now) (ap split_frames whole ∙ split_whole phase b w)
      ∙ (λ i. record { session = (ap (λ (t : Session). on_rest_in t.phase t []) acts ∙ rest_nothing u.phase u) i; rest = [] })

  -- a frame's first bytes show a fault
  pub fed_faulty : (f : SyncError) → rest_fault phase b ≡ Some f → (fed role (point phase held sent r) y).session ≡ ended f held sent
  fed_faulty f shows = ap (λ z. on_split role now (split_frames z)) whole ∙ open_fails role now b f (opened phase role held sent is_open) shows

-- ---- the faults of first bytes

IsShown : Option SyncError → Type 0
IsShown None = Unit {0}
IsShown (Some fault.Frame) = Unit {0}
IsShown (Some fault.Order) = Unit {0}
IsShown (Some f) = ⊥

head_shows : (phase : Phase) (n tag : ℕ) → IsShown (head_fault phase n tag)
unfolding IsShown
head_shows phase n tag = elim (is_head n tag) as (λ b. IsShown (elim b [ false ↦ Some fault.Frame | true ↦ elim (is_due phase tag) [ true ↦ None | false ↦ Some fault.Order ] ])) [
  | false ↦ tt
  | true ↦ elim (is_due phase tag) as (λ b. IsShown (elim b [ true ↦ None | false ↦ Some fault.Order ])) [ true ↦ tt | false ↦ tt ]
]

shown_shows : (a b c : Bool) (h : Option SyncError) → IsShown h → IsShown (shown a b c h)
unfolding IsShown
shown_shows false b c h s = tt
shown_shows true false c h s = tt
shown_shows true true false h s = tt
shown_shows true true true h s = s

fails_so : (role : Role) (p : Point) (y : Bytes) (f : SyncError) (held : Operations) (sent : Bytes) → IsShown (Some f) → (fed role p y).session ≡ ended f held sent → Fails role p y f held sent
unfolding IsShown
fails_so role p y fault.Frame held sent s e = e
fails_so role p y fault.Order held sent s e = e
fails_so role p y fault.Clock held sent s e = absurd s
fails_so role p y fault.Delta held sent s e = absurd s
fails_so role p y fault.OutOfMemory held sent s e = absurd s
fails_so role p y fault.Failed held sent s e = absurd s
fails_so role p y fault.Cut held sent s e = absurd s
fails_so role p y fault.Read held sent s e = absurd s
fails_so role p y fault.Write held sent s e = absurd s
fails_so role p y fault.Turns held sent s e = absurd s

pub shown_fails : (role : Role) (phase : Phase) (held : Operations) (sent r y b : Bytes) (f : SyncError) → IsOpenPhase phase → r ++ y ≡ b → rest_fault phase b ≡ Some f → Fails role (point phase held sent r) y f held sent
shown_fails role phase held sent r y b f is_open whole shows =
    fails_so role (point phase held sent r) y f held sent
    (subst IsShown shows (shown_shows (leb 4 (length b)) (is_length (length_field b)) (leb 5 (length b)) (head_fault phase (length_field b) (tag_field b)) (head_shows phase (length_field b) (tag_field b))))
    (fed_faulty role phase held sent r y b is_open whole f shows)

-- five bytes that show no fault
no_fault : (a b c : Bool) (h : Option SyncError) → a ≡ true → c ≡ true → shown a b c h ≡ None → (b ≡ true) × (h ≡ None)
no_fault false b c h long longer e = cc
no_fault true false c h long longer e = cc
no_fault true true false h long longer e = cc
no_fault true true true h long longer e = (refl, e)

pub faultless_head : (phase : Phase) (b : Bytes) → 5 ≤ length b → rest_fault phase b ≡ None → (is_length (length_field b) ≡ true) × (head_fault phase (length_field b) (tag_field b) ≡ None)
faultless_head phase b long e =
    no_fault (leb 4 (length b)) (is_length (length_field b)) (leb 5 (length b)) (head_fault phase (length_field b) (tag_field b))
    (le-leb 4 (length b) (omega (arith, long))) (le-leb 5 (length b) long) e

pub faultless_from : (phase : Phase) (b : Bytes) → 5 ≤ length b → is_length (length_field b) ≡ true → head_fault phase (length_field b) (tag_field b) ≡ None → rest_fault phase b ≡ None
faultless_from phase b long is due = λ i. shown (le-leb 4 (length b) (let four : 4 ≤ length b = omega (arith, long) in four) i) (is i) (le-leb 5 (length b) long i) (due i)

pub not_begun : (b : Bytes) → (5 ≤ length b → length b < 4 + length_field b) → begins_whole b ≡ false
not_begun b short = elim (begins_whole b) as (λ w. begins_whole b ≡ w → w ≡ false) [
  | true ↦ λ e. let w = whole_parts b e in let fits = w.fits in let less = short w.long in absurd (omega (arith, fits, less))
  | false ↦ λ _. refl
] refl

-- ---- where a session is then

pub is_at : (role : Role) (phase : Phase) (kept : Kept) (held : Operations) (sent bytes : Bytes) (p : Point) → p ≡ point phase held sent bytes → IsRest kept bytes → IsAt role (record { role = role; phase = phase; kept = kept }) held sent p
is_at role phase kept held sent bytes p e rest = record {
  role_is = refl;
  session = ap (λ (q : Point). q.session) e;
  rest = subst (IsRest kept) (sym (ap (λ (q : Point). q.rest) e)) rest;
}

-- ---- a delta frame in parts

pub record HasPayload (head b : Bytes) (missing : ℕ) : Type 0 where
  pub payload : Bytes
  pub spelled : b ≡ head ++ payload
  pub counted : length payload + missing + 1 ≡ length_field head
  pub bytes : IsBytes payload

abbrev pub has_payload : (phase : Phase) (head b : Bytes) (missing : ℕ) (known : Option Bytes) → IsDeltaFront phase head missing known → IsRest (kept_by head missing known) b → HasPayload head b missing
has_payload phase head b missing (Some bytes) front rest = record { payload = bytes; spelled = rest; counted = front.counted.0; bytes = front.counted.1 }
has_payload phase head b missing None front rest = record { payload = rest.payload; spelled = rest.spelled; counted = rest.counted; bytes = rest.bytes }

module _ (phase : Phase) (head b : Bytes) (missing : ℕ) (known : Option Bytes) (front : IsDeltaFront phase head missing known) (has : HasPayload head b missing) where
  long_head : 5 ≤ length head
  long_head = let e = front.long in omega (arith, e)

  field_is : length_field b ≡ length_field head
  field_is = ap length_field has.spelled ∙ field-append head has.payload (let e = front.long in omega (arith, e))

  tag_is : tag_field b ≡ delta_tag
  tag_is = ap tag_field has.spelled ∙ tag-append head has.payload long_head ∙ front.tag

  size_is : length b ≡ 5 + length has.payload
  size_is = let e = front.long in let l = ap length has.spelled in let parts = length-append head has.payload in omega (arith, e, l, parts)

  pub payload_is : drop 5 b ≡ has.payload
  payload_is = ap (drop 5) has.spelled ∙ ap (λ n. drop n (head ++ has.payload)) (sym front.long) ∙ drop-append_seam head has.payload

  due_is : head_fault phase (length_field b) (tag_field b) ≡ None
  due_is = (λ i. head_fault phase (field_is i) (tag_is i)) ∙ front.due

  length_is : is_length (length_field b) ≡ true
  length_is = ap is_length field_is ∙ front.is

  pub delta_unfinished : 1 ≤ missing → begins_whole b ≡ false
  delta_unfinished some = not_begun b (λ long. let f = field_is in let s = size_is in let c = has.counted in omega (arith, f, s, c, some))

  pub delta_faultless : rest_fault phase b ≡ None
  delta_faultless = faultless_from phase b (let s = size_is in omega (arith, s)) length_is due_is

  pub delta_whole : missing ≡ 0 → IsWholeFrame phase b
  delta_whole none = record {
    long = let s = size_is in omega (arith, s);
    is = length_is;
    ends = let f = field_is in let s = size_is in let c = has.counted in omega (arith, f, s, c, none);
    due = due_is;
  }

  pub delta_tagged : tag_field b ≡ delta_tag
  delta_tagged = tag_is

-- ---- a session at the start of a frame

pub starts_at : {A : Type 0} (role : Role) (s : SessionState A) (d : Due A) (held : Operations) (sent : Bytes) (p : Point) → s.due ≡ d → kept_of s.incoming ≡ Known []
    → p ≡ record { session = record { phase = phase_of d; held = held; sent = sent }; rest = [] } → IsAt role (standing_of role s) held sent p
starts_at role s d held sent p same none e = record {
  role_is = refl;
  session = ap (λ (q : Point). q.session) e ∙ ap (λ x. record { phase = phase_of x; held = held; sent = sent }) (sym same);
  rest = subst (λ k. IsRest k p.rest) (sym none) (ap (λ (q : Point). q.rest) e);
}

-- a clock's or a first part's bytes are missing some
pub front_short : (phase : Phase) (b : Bytes) → IsFront phase b → 5 ≤ length b → length b < 4 + length_field b
front_short phase b front long =
    let is = (faultless_head phase b long front.faultless).0 in
    let ends : leb (4 + length_field b) (length b) ≡ false = third (leb 5 (length b)) (is_length (length_field b)) (leb (4 + length_field b) (length b)) (le-leb 5 (length b) long) is front.unfinished in
    leb-false (4 + length_field b) (length b) ends
  where
    third : (a b c : Bool) → a ≡ true → b ≡ true → (a && b && c) ≡ false → c ≡ false
    third true true c h k e = e
    third true false c h k e = cc
    third false b c h k e = cc

-- memory was refused before anything was done
pub stops_here : (role : Role) (p : Point) (y : Bytes) (held : Operations) (sent : Bytes) → held ≡ p.session.held → sent ≡ p.session.sent → Stops role p y held sent
stops_here role p y held sent same quiet = record { held_is = record { ops = []; count = 0; is = same ∙ sym (taken_none role p.session.held); whole = inl refl }; sent_is = quiet }

pub known_point : (role : Role) (phase : Phase) (kept : Kept) (held : Operations) (sent : Bytes) (p : Point) → IsAt role (record { role = role; phase = phase; kept = kept }) held sent p → p ≡ point phase held sent p.rest
known_point role phase kept held sent p at = λ i. record { session = at.session i; rest = p.rest }

-- the head stays while the payload grows
pub front_more : (phase : Phase) (head head' : Bytes) (missing missing' n : ℕ) (known known' : Option Bytes) → IsDeltaFront phase head missing known → head' ≡ head → missing' + n ≡ missing → IsCounted head' missing' known' → IsDeltaFront phase head' missing' known'
front_more phase head head' missing missing' n known known' front same counts counted = record {
  long = ap length same ∙ front.long;
  is = ap (λ h. is_length (length_field h)) same ∙ front.is;
  tag = ap tag_field same ∙ front.tag;
  due = ap (λ h. head_fault phase (length_field h) delta_tag) same ∙ front.due;
  few = let few = front.few in let field = ap length_field same in omega (arith, few, field, counts);
  counted = counted;
}

pub tail_is : (b : Bytes) → take (length b - 5) (drop 5 b) ≡ drop 5 b
tail_is b = let left : length (drop 5 b) ≡ length b - 5 = length-drop 5 b in take_all (length b - 5) (drop 5 b) (omega (arith, left))

-- ---- no byte more

pub still : {A : Type 0} (role : Role) (s : SessionState A) (held : Operations) (sent : Bytes) (p : Point) → IsSessionState s → IsAt role (standing_of role s) held sent p → fed role p [] ≡ p
still {A} role s held sent p valid at = still_in s.due s.incoming valid at
  where
    standing : Due A → Incoming A → Standing
    standing d i = record { role = role; phase = phase_of d; kept = kept_of i }

    still_open : (d : Due A) (i : Incoming A) → IsOpenPhase (phase_of d) → IsIncoming (phase_of d) i → IsAt role (record { role = role; phase = phase_of d; kept = kept_of i }) held sent p → fed role p [] ≡ p
    still_open d (incoming.Kept bytes) is_open front at =
        let p_is = known_point role (phase_of d) (Known bytes.items) held sent p at ∙ ap (point (phase_of d) held sent) at.rest in
        ap (λ q. fed role q []) p_is ∙ fed_front role (phase_of d) held sent bytes.items [] bytes.items is_open (append-nil bytes.items) front.unfinished front.faultless ∙ sym p_is
    still_open d (incoming.Delta delta) is_open front at =
        let has = has_payload (phase_of d) delta.head.items p.rest delta.missing delta.reader front.0 at.rest in
        let p_is = known_point role (phase_of d) (kept_of_delta delta) held sent p at in
        ap (λ q. fed role q []) p_is
        ∙ fed_front role (phase_of d) held sent p.rest [] p.rest is_open (append-nil p.rest) (delta_unfinished (phase_of d) delta.head.items p.rest delta.missing delta.reader front.0 has front.1) (delta_faultless (phase_of d) delta.head.items p.rest delta.missing delta.reader front.0 has)
        ∙ sym p_is

    still_in : (d : Due A) (i : Incoming A) → IsIncoming (phase_of d) i → IsAt role (record { role = role; phase = phase_of d; kept = kept_of i }) held sent p → fed role p [] ≡ p
    still_in due.Clock i valid at = still_open due.Clock i tt valid at
    still_in (due.Deltas t) i valid at = still_open (due.Deltas t) i tt valid at
    still_in due.End i valid at = still_open due.End i tt valid at
    still_in due.Nothing (incoming.Kept bytes) front at =
        let none : bytes.items ≡ [] = front.ended refl in
        let p_is = known_point role IsDone (Known bytes.items) held sent p at ∙ ap (point IsDone held sent) (at.rest ∙ none) in
        ap (λ q. fed role q []) p_is ∙ sym p_is
    still_in due.Nothing (incoming.Delta delta) front at = absurd front.2

pub not_less : (n : ℕ) → 5 ≤ n → ltb n 5 ≡ false
not_less n long = elim (ltb n 5) as (λ b. ltb n 5 ≡ b → b ≡ false) [ true ↦ λ e. let less = leb-true (suc n) 5 e in absurd (omega (arith, less, long)) | false ↦ λ _. refl ] refl

-- a session that wants nothing is done
pub done_from : {A : Type 0} (s : SessionState A) → IsSessionState s → wanted_by s ≡ 0 → phase_of s.due ≡ IsDone
done_from {A} s valid none = done_in s.due s.incoming valid none
  where
    wants : (phase : Phase) (i : Incoming A) → IsIncoming phase i → missing_of i ≡ 0 → ⊥
    wants phase (incoming.Delta d) front none = let some = front.1 in omega (arith, some, none)
    wants phase (incoming.Kept bytes) front none = elim (leb 5 (length bytes.items)) as (λ b. leb 5 (length bytes.items) ≡ b → ⊥) [
      | true ↦ λ e.
          let long = leb-true 5 (length bytes.items) e in
          let short = front_short phase bytes.items front long in
          let counts : missing_bytes bytes.items ≡ 4 + length_field bytes.items - length bytes.items = ap (λ b. elim b [ true ↦ 5 - length bytes.items | false ↦ 4 + length_field bytes.items - length bytes.items ]) (not_less (length bytes.items) long) in
          omega (arith, counts, short, none)
      | false ↦ λ e.
          let less = leb-false 5 (length bytes.items) e in
          let counts : missing_bytes bytes.items ≡ 5 - length bytes.items = ap (λ b. elim b [ true ↦ 5 - length bytes.items | false ↦ 4 + length_field bytes.items - length bytes.items ]) (le-leb (suc (length bytes.items)) 5 (omega (arith, less))) in
          omega (arith, counts, less, none)
    ] refl

    done_in : (d : Due A) (i : Incoming A) → IsIncoming (phase_of d) i → wanted_in (phase_of d) i ≡ 0 → phase_of d ≡ IsDone
    done_in due.Clock i valid none = absurd (wants AwaitsClock i valid none)
    done_in (due.Deltas t) i valid none = absurd (wants (AwaitsDeltas t) i valid none)
    done_in due.End i valid none = absurd (wants AwaitsEnd i valid none)
    done_in due.Nothing i valid none = refl

pub done_kept : {A : Type 0} (s : SessionState A) → IsSessionState s → phase_of s.due ≡ IsDone → kept_of s.incoming ≡ Known []
done_kept {A} s valid done = kept_in (phase_of s.due) s.incoming valid done
  where
    kept_in : (phase : Phase) (i : Incoming A) → IsIncoming phase i → phase ≡ IsDone → kept_of i ≡ Known []
    kept_in phase (incoming.Kept bytes) front done = ap Known (front.ended done)
    kept_in phase (incoming.Delta d) front done = not_done phase front.2 done

-- what it wants is what the point wants
pub wanted_at : {A : Type 0} (r role : Role) (s : SessionState A) (held : Operations) (sent : Bytes) (p : Point) → IsSessionState s → IsAt role (standing_of r s) held sent p → wanted_by s ≡ wanted p
wanted_at {A} r role s held sent p valid at = sym (ap (λ (t : Session). phase_wants t.phase p.rest) at.session ∙ sym (want s.due s.incoming valid at.rest))
  where
    missing_is : (phase : Phase) (i : Incoming A) → IsIncoming phase i → IsRest (kept_of i) p.rest → missing_of i ≡ missing_bytes p.rest
    missing_is phase (incoming.Kept bytes) front rest = ap missing_bytes (sym rest)
    missing_is phase (incoming.Delta d) front rest =
        let has = has_payload phase d.head.items p.rest d.missing d.reader front.0 rest in
        let size = size_is phase d.head.items p.rest d.missing d.reader front.0 has in
        let field = field_is phase d.head.items p.rest d.missing d.reader front.0 has in
        let counted = has.counted in
        let counts : missing_bytes p.rest ≡ 4 + length_field p.rest - length p.rest = ap (λ b. elim b [ true ↦ 5 - length p.rest | false ↦ 4 + length_field p.rest - length p.rest ]) (not_less (length p.rest) (omega (arith, size))) in
        omega (arith, counts, size, field, counted)

    want : (d : Due A) (i : Incoming A) → IsIncoming (phase_of d) i → IsRest (kept_of i) p.rest → wanted_in (phase_of d) i ≡ phase_wants (phase_of d) p.rest
    want due.Clock i valid rest = missing_is AwaitsClock i valid rest
    want (due.Deltas t) i valid rest = missing_is (AwaitsDeltas t) i valid rest
    want due.End i valid rest = missing_is AwaitsEnd i valid rest
    want due.Nothing i valid rest = refl
