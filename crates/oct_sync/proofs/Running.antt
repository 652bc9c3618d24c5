-- What holds at each turn of a driver.
use Rattle.std.proofs.Common.{◌≡◌, ℕ, ◌+◌, ◌≤◌, [], ◌++◌, take, length, Option, Some, None, Result, Err, refl, sym, ◌∙◌, ap, subst, append_assoc, inl, inr}
use Rattle.std.specs.Io.KnownBytes.{Appends, Consumes, Keeps}
use Rattle.std.proofs.KnownBytes.{Appends-nil, Appends-trans, Consumes-nil, Consumes-trans, Consumes-kept}
use Rattle.std.proofs.lemmas.List.{append-nil, take_at, drop_at}
use Rattle.std.proofs.Math.Seq.{take-add}
use Rattle.oct_delta.specs.Text.{Bytes}
use Rattle.oct_ops.specs.Operations.{Operations}
use Rattle.oct_sync.specs.Driven.{Breaks, Completes, Concludes, IsOutside, RunsOut, Tells, begun}
use Rattle.written.specs.Output.{AppendsPrefix}
use Rattle.oct_sync.specs.Session.{Phase, AwaitsClock, AwaitsDeltas, AwaitsEnd, IsDone, HasFailed, Session, Point, fed, wanted}
use Rattle.oct_sync.specs.SessionState.{IsOpenPhase}
use Rattle.oct_sync.specs.Standing.{Ends, HasNotFailed, IsAt, Standing, StandsAt, StandsSound, StopsShort, TakesFirst, at_start, ended, progress_in, progress_of}
use Rattle.oct_sync.specs.declared.error.SyncError.{SyncError}
use Rattle.oct_sync.specs.declared.error.SyncError.TheVariants as fault
use Rattle.oct_sync.specs.declared.progress.Progress.TheVariants.{Done}
use Rattle.oct_sync.specs.declared.role.Role.{Role}
use Rattle.oct_sync.specs.declared.role.Role.TheVariants.{Client, ClientOfAll, Giver, Server}
use Rattle.oct_sync.proofs.Cutting.{any_cutting}
use Rattle.oct_sync.proofs.Owing.{past, fed_past}

abbrev start : Role → Operations → Point
start role held = record { session = begun role held; rest = [] }

-- these bytes were read, and all that the session sends for them was written, but for what is owed
pub record IsRunning (role : Role) (reader reader' writer writer' : Option Bytes) (before : Operations) (s : Option Standing) (held : Operations) (owed : Bytes) : Type 0 where
  pub bytes : Bytes
  pub read : Consumes reader reader' bytes
  pub written : Bytes
  pub put : Appends writer writer' written
  pub at : StandsAt role s held (written ++ owed) (fed role (record { session = begun role before; rest = [] }) bytes)

started : (role : Role) (held : Operations) (owed : Bytes) → owed ≡ (begun role held).sent → IsAt role (at_start role) held owed (fed role (record { session = begun role held; rest = [] }) [])
started Client held owed e = record { role_is = refl; session = ap (λ sent. record { phase = AwaitsClock; held = held; sent = sent }) (sym e); rest = refl }
started ClientOfAll held owed e = record { role_is = refl; session = ap (λ sent. record { phase = AwaitsClock; held = held; sent = sent }) (sym e); rest = refl }
started Giver held owed e = record { role_is = refl; session = ap (λ sent. record { phase = AwaitsClock; held = held; sent = sent }) (sym e); rest = refl }
started Server held owed e = record { role_is = refl; session = ap (λ sent. record { phase = AwaitsClock; held = held; sent = sent }) (sym e); rest = refl }

pub IsRunning-begun : (role : Role) (reader writer : Option Bytes) (held : Operations) (s : Option Standing) (none owed : Bytes) → s ≡ Some (at_start role) → none ≡ [] → owed ≡ none ++ (begun role held).sent → IsRunning role reader reader writer writer held s held owed
IsRunning-begun role reader writer held s none owed same empty greets = record {
  bytes = [];
  read = Consumes-nil reader;
  written = [];
  put = Appends-nil writer;
  at = subst (λ t. StandsAt role t held owed (fed role (start role held) [])) (sym same) (started role held owed (greets ∙ ap (λ z. z ++ (begun role held).sent) empty));
}

take_past : (xs ys : Bytes) (n : ℕ) → take (length xs + n) (xs ++ ys) ≡ xs ++ take n ys
take_past xs ys n = rw (take-add, take_at xs ys (length xs) refl, drop_at xs ys (length xs) refl) refl

-- what stands there
held_at : (role : Role) (s : Option Standing) (held : Operations) (sent : Bytes) (p : Point) → StandsAt role s held sent p → (p.session.held ≡ held) × (p.session.sent ≡ sent)
held_at role None held sent p at = absurd at
held_at role (Some s) held sent p at = (ap (λ (t : Session). t.held) at.session, ap (λ (t : Session). t.sent) at.session)

done_phase : (phase : Phase) → progress_in phase ≡ Done → phase ≡ IsDone
done_phase AwaitsClock e = cc
done_phase (AwaitsDeltas t) e = cc
done_phase AwaitsEnd e = cc
done_phase IsDone e = refl
done_phase (HasFailed f) e = cc

done_at : (role : Role) (s : Option Standing) (held : Operations) (sent : Bytes) (p : Point) → progress_of s ≡ Done → StandsAt role s held sent p → p.session.phase ≡ IsDone
done_at role None held sent p done at = absurd at
done_at role (Some s) held sent p done at = ap (λ (t : Session). t.phase) at.session ∙ done_phase s.phase done

-- a frame is due
open_phase : (phase : Phase) → HasNotFailed phase → (progress_in phase ≡ Done → ⊥) → IsOpenPhase phase
open_phase AwaitsClock sound more = tt
open_phase (AwaitsDeltas t) sound more = tt
open_phase AwaitsEnd sound more = tt
open_phase IsDone sound more = absurd (more refl)
open_phase (HasFailed f) sound more = absurd sound

open_at : (role : Role) (s : Option Standing) (held : Operations) (sent : Bytes) (p : Point) → StandsAt role s held sent p → StandsSound s → (progress_of s ≡ Done → ⊥) → IsOpenPhase p.session.phase
open_at role None held sent p at sound more = absurd at
open_at role (Some s) held sent p at sound more = subst IsOpenPhase (sym (ap (λ (t : Session). t.phase) at.session)) (open_phase s.phase sound more)

-- no fault was shown
sound_at : (role : Role) (s : Option Standing) (held : Operations) (sent : Bytes) (p : Point) → StandsAt role s held sent p → StandsSound s → HasNotFailed p.session.phase
sound_at role None held sent p at sound = absurd at
sound_at role (Some s) held sent p at sound = subst HasNotFailed (sym (ap (λ (t : Session). t.phase) at.session)) sound

open_sound : (phase : Phase) → IsOpenPhase phase → HasNotFailed phase
open_sound AwaitsClock is = tt
open_sound (AwaitsDeltas t) is = tt
open_sound AwaitsEnd is = tt
open_sound IsDone is = absurd is
open_sound (HasFailed f) is = absurd is

tells_outside : (e : SyncError) → IsOutside e → (phase : Phase) → IsOpenPhase phase → Tells e phase
tells_outside fault.Frame outside phase is = absurd outside
tells_outside fault.Order outside phase is = absurd outside
tells_outside fault.Clock outside phase is = absurd outside
tells_outside fault.Delta outside phase is = absurd outside
tells_outside fault.OutOfMemory outside phase is = absurd outside
tells_outside fault.Failed outside phase is = absurd outside
tells_outside fault.Cut outside phase is = is
tells_outside fault.Read outside phase is = is
tells_outside fault.Write outside phase is = open_sound phase is
tells_outside fault.Turns outside phase is = is

module _ (role : Role) (r r' w w' : Option Bytes) (before : Operations) (s : Option Standing) (held : Operations) (owed : Bytes) (running : IsRunning role r r' w w' before s held owed) where
  abbrev here : Point
  here = fed role (record { session = begun role before; rest = [] }) running.bytes

  -- what is owed is written
  pub IsRunning-sent : (w'' : Option Bytes) → Appends w' w'' owed → IsRunning role r r' w w'' before s held []
  IsRunning-sent w'' put = record {
    bytes = running.bytes;
    read = running.read;
    written = running.written ++ owed;
    put = Appends-trans w w' w'' running.written owed running.put put;
    at = subst (λ z. StandsAt role s held z here) (sym (append-nil (running.written ++ owed))) running.at;
  }

  -- a part of what is owed is written, and the writer fails
  pub Breaks-sending : StandsSound s → (w'' : Option Bytes) → AppendsPrefix w' w'' owed → Breaks role fault.Write r r' w w'' before held
  Breaks-sending sound w'' put = record {
    bytes = running.bytes;
    read = running.read;
    told = sound_at role s held (running.written ++ owed) here running.at sound;
    held_is = sym (held_at role s held (running.written ++ owed) here running.at).0;
    written = (
      length running.written + put.0,
      subst (λ z. Appends w w'' z) (sym (ap (take (length running.written + put.0)) (held_at role s held (running.written ++ owed) here running.at).1 ∙ take_past running.written owed put.0))
          (Appends-trans w w' w'' running.written (take put.0 owed) running.put put.1),
    );
  }

  -- the reader fails, and keeps what it has
  pub Breaks-reading : StandsSound s → (progress_of s ≡ Done → ⊥) → (e : SyncError) → IsOutside e → (r'' : Option Bytes) → Keeps r' r'' → Breaks role e r r'' w w' before held
  Breaks-reading sound more e outside r'' kept = record {
    bytes = running.bytes;
    read = Consumes-kept r r' r'' running.bytes running.read kept;
    told = tells_outside e outside here.session.phase (open_at role s held (running.written ++ owed) here running.at sound more);
    held_is = sym (held_at role s held (running.written ++ owed) here running.at).0;
    written = (
      length running.written,
      subst (λ z. Appends w w' z) (sym (ap (take (length running.written)) (held_at role s held (running.written ++ owed) here running.at).1 ∙ take_at running.written owed (length running.written) refl)) running.put,
    );
  }

-- ---- the last of what a session sends

module _ (role : Role) (r r' w w' w'' : Option Bytes) (before held : Operations) (owed : Bytes) (c : Concludes role r r' w w' before held owed) where
  -- it is written
  pub completed : Appends w' w'' owed → Completes role r r' w w'' before held
  completed put = record {
    bytes = c.before ++ c.last;
    read = c.read;
    done = c.done;
    held_is = c.held_is;
    written = subst (λ z. Appends w w'' z) (sym c.sent_is) (Appends-trans w w' w'' _ owed c.written put);
  }

  -- a part of it is written, and the writer fails
  pub Breaks-at_last : AppendsPrefix w' w'' owed → Breaks role fault.Write r r' w w'' before held
  Breaks-at_last put =
      let front = (fed role (record { session = begun role before; rest = [] }) c.before).session.sent in
      record {
        bytes = c.before ++ c.last;
        read = c.read;
        told = subst HasNotFailed (sym c.done) tt;
        held_is = c.held_is;
        written = (
          length front + put.0,
          subst (λ z. Appends w w'' z) (sym (ap (take (length front + put.0)) c.sent_is ∙ take_past front owed put.0)) (Appends-trans w w' w'' front (take put.0 owed) c.written put.1),
        );
      }

-- ---- a piece is read and fed, where nothing is owed

abbrev unsent : Bytes → Point → Point
unsent none p = record { session = record p.session { sent = none }; rest = p.rest }

unsent_at : (role : Role) (s : Option Standing) (held : Operations) (sent none : Bytes) (p : Point) → StandsAt role s held sent p → StandsAt role s held none (unsent none p)
unsent_at role None held sent none p at = at
unsent_at role (Some s) held sent none p at = record {
  role_is = at.role_is;
  session = ap (λ (t : Session). record t { sent = none }) at.session;
  rest = at.rest;
}

-- what it sends for a piece, with what it had sent before
with_past : (role : Role) (written none : Bytes) (p : Point) (piece : Bytes) → none ≡ [] → p.session.sent ≡ written ++ [] → fed role p piece ≡ record { session = past written (fed role (unsent none p) piece).session; rest = (fed role (unsent none p) piece).rest }
with_past role written none p piece empty sent =
    (λ i. fed role (record { session = record p.session { sent = (sent ∙ ap (λ z. written ++ z) (sym empty)) i }; rest = p.rest }) piece)
    ∙ fed_past written role (record p.session { sent = none }) p.rest piece

past_at : (role : Role) (s : Option Standing) (held : Operations) (written owed : Bytes) (q : Point) → StandsAt role s held owed q → StandsAt role s held (written ++ owed) (record { session = past written q.session; rest = q.rest })
past_at role None held written owed q at = at
past_at role (Some s) held written owed q at = record { role_is = at.role_is; session = ap (past written) at.session; rest = at.rest }

-- the same point, of a session that had sent these bytes before
abbrev with_written : Bytes → Point → Point
with_written written q = record { session = past written q.session; rest = q.rest }

first_with : (role : Role) (written : Bytes) (q : Point) (bytes : Bytes) (held : Operations) → TakesFirst role q bytes held → TakesFirst role (with_written written q) bytes held
first_with role written q bytes held first = record {
  ops = first.ops;
  count = first.count;
  is = first.is;
  whole = elim first.whole [
    | inl none ↦ inl none
    | inr ends ↦ inr (record {
      payload = ends.payload;
      frame = ends.frame;
      reads = ends.reads;
      taken = ap (λ (p : Point). p.session.held) (fed_past written role q.session q.rest bytes) ∙ ends.taken;
    })
  ];
}

pub ends_session : (role : Role) (q : Point) (piece : Bytes) (e : SyncError) (held : Operations) (sent : Bytes) → (e ≡ fault.OutOfMemory → ⊥) → Ends role q piece e held sent → (fed role q piece).session ≡ ended e held sent
ends_session role q piece fault.Frame held sent m h = h
ends_session role q piece fault.Order held sent m h = h
ends_session role q piece fault.Clock held sent m h = h
ends_session role q piece fault.Delta held sent m h = h
ends_session role q piece fault.OutOfMemory held sent m h = absurd (m refl)
ends_session role q piece fault.Failed held sent m h = absurd h
ends_session role q piece fault.Cut held sent m h = absurd h
ends_session role q piece fault.Read held sent m h = absurd h
ends_session role q piece fault.Write held sent m h = absurd h
ends_session role q piece fault.Turns held sent m h = absurd h

tells_ended : (role : Role) (q : Point) (piece : Bytes) (e : SyncError) (held : Operations) (sent : Bytes) → (e ≡ fault.OutOfMemory → ⊥) → Ends role q piece e held sent
    → (phase : Phase) → phase ≡ HasFailed e → Tells e phase
tells_ended role q piece fault.Frame held sent m h phase is = is
tells_ended role q piece fault.Order held sent m h phase is = is
tells_ended role q piece fault.Clock held sent m h phase is = is
tells_ended role q piece fault.Delta held sent m h phase is = is
tells_ended role q piece fault.OutOfMemory held sent m h phase is = absurd (m refl)
tells_ended role q piece fault.Failed held sent m h phase is = absurd h
tells_ended role q piece fault.Cut held sent m h phase is = absurd h
tells_ended role q piece fault.Read held sent m h phase is = absurd h
tells_ended role q piece fault.Write held sent m h phase is = absurd h
tells_ended role q piece fault.Turns held sent m h phase is = absurd h

abbrev pub answered : SyncError → Result (Unit {0}) SyncError
answered e = Err e

module _ (role : Role) (r r' r'' w w' : Option Bytes) (before : Operations) (s : Option Standing) (held : Operations) (none piece : Bytes) (running : IsRunning role r r' w w' before s held []) (quiet : none ≡ []) (read : Consumes r' r'' piece) where
  abbrev now : Point
  now = fed role (record { session = begun role before; rest = [] }) running.bytes

  whole_of : (part : Bytes) → fed role (record { session = begun role before; rest = [] }) (running.bytes ++ part) ≡ with_written running.written (fed role (unsent none now) part)
  whole_of part = sym (any_cutting role (record { session = begun role before; rest = [] }) running.bytes part)
      ∙ with_past role running.written none now part quiet (held_at role s held (running.written ++ []) now running.at).1

  whole : fed role (record { session = begun role before; rest = [] }) (running.bytes ++ piece) ≡ with_written running.written (fed role (unsent none now) piece)
  whole = whole_of piece

  pub IsRunning-fed : (s' : Option Standing) (held' : Operations) (owed : Bytes) → ((t : Role) (p : Point) → StandsAt t s held none p → StandsAt t s' held' owed (fed t p piece)) → IsRunning role r r'' w w' before s' held' owed
  IsRunning-fed s' held' owed feeds = record {
    bytes = running.bytes ++ piece;
    read = Consumes-trans r r' r'' running.bytes piece running.read read;
    written = running.written;
    put = running.put;
    at = subst (λ p. StandsAt role s' held' (running.written ++ owed) p) (sym whole)
        (past_at role s' held' running.written owed (fed role (unsent none now) piece) (feeds role (unsent none now) (unsent_at role s held (running.written ++ []) none now running.at)));
  }

  -- with this piece the session is done, and what it sends for it is owed
  pub concluded : (s' : Option Standing) (held' : Operations) (owed : Bytes) → ((t : Role) (p : Point) → StandsAt t s held none p → StandsAt t s' held' owed (fed t p piece)) → StandsSound s → (progress_of s ≡ Done → ⊥) → progress_of s' ≡ Done
      → Concludes role r r'' w w' before held' owed
  unfolding IsRunning-fed
  concluded s' held' owed feeds sound more done =
      let next = IsRunning-fed s' held' owed feeds in
      let there = held_at role s' held' (running.written ++ owed) (fed role (record { session = begun role before; rest = [] }) (running.bytes ++ piece)) next.at in
      let sent = (held_at role s held (running.written ++ []) now running.at).1 ∙ append-nil running.written in
      record {
        before = running.bytes;
        last = piece;
        read = next.read;
        is_open = open_at role s held (running.written ++ []) now running.at sound more;
        done = done_at role s' held' (running.written ++ owed) (fed role (record { session = begun role before; rest = [] }) (running.bytes ++ piece)) done next.at;
        held_is = sym there.0;
        written = subst (λ z. Appends w w' z) (sym sent) running.put;
        sent_is = there.1 ∙ ap (λ z. z ++ owed) (sym sent);
      }

  pub RunsOut-feeding : (e : SyncError) (held' : Operations) (owed : Bytes) → e ≡ fault.OutOfMemory → ((t : Role) (p : Point) → StandsAt t s held none p → Ends t p piece e held' owed) → RunsOut role r r'' w w' before held'
  RunsOut-feeding e held' owed memory feeds =
      let stop : StopsShort role (unsent none now) piece held' owed = subst (λ e. Ends role (unsent none now) piece e held' owed) memory (feeds role (unsent none now) (unsent_at role s held (running.written ++ []) none now running.at)) in
      let q : Point = fed role (unsent none now) stop.before in
      let there : fed role (record { session = begun role before; rest = [] }) (running.bytes ++ stop.before) ≡ with_written running.written q = whole_of stop.before in
      let sent = (fed role (record { session = begun role before; rest = [] }) (running.bytes ++ stop.before)).session.sent in
      record {
        bytes = running.bytes ++ piece;
        sent = sent;
        read = Consumes-trans r r' r'' running.bytes piece running.read read;
        stops = record {
          before = running.bytes ++ stop.before;
          here = stop.here;
          after = stop.after;
          cut = ap (λ z. running.bytes ++ z) stop.cut ∙ sym (append_assoc running.bytes stop.before (stop.here ++ stop.after));
          some = stop.some;
          fits = subst (λ (p : Point). length stop.here ≤ wanted p) (sym there) stop.fits;
          held_is = subst (λ (p : Point). TakesFirst role p stop.here held') (sym there) (first_with role running.written q stop.here held' stop.held_is);
          sent_is = refl;
        };
        written = (
          length running.written,
          subst (λ z. Appends w w' z) (sym (ap (λ (p : Point). take (length running.written) p.session.sent) there ∙ take_at running.written q.session.sent (length running.written) refl)) running.put,
        );
      }

  pub Breaks-feeding : (e : SyncError) (held' : Operations) (owed : Bytes) → (e ≡ fault.OutOfMemory → ⊥) → ((t : Role) (p : Point) → StandsAt t s held none p → Ends t p piece e held' owed) → Breaks role e r r'' w w' before held'
  Breaks-feeding e held' owed memory feeds =
      let fault_shown = feeds role (unsent none now) (unsent_at role s held (running.written ++ []) none now running.at) in
      let ends = ends_session role (unsent none now) piece e held' owed memory fault_shown in
      let session : (fed role (record { session = begun role before; rest = [] }) (running.bytes ++ piece)).session ≡ past running.written (ended e held' owed) = ap (λ (p : Point). p.session) whole ∙ ap (past running.written) ends in
      record {
        bytes = running.bytes ++ piece;
        read = Consumes-trans r r' r'' running.bytes piece running.read read;
        told = tells_ended role (unsent none now) piece e held' owed memory fault_shown _ (ap (λ (t : Session). t.phase) session);
        held_is = sym (ap (λ (t : Session). t.held) session);
        written = (
          length running.written,
          subst (λ z. Appends w w' z) (sym (ap (λ (t : Session). take (length running.written) t.sent) session ∙ take_at running.written owed (length running.written) refl)) running.put,
        );
      }

  -- a fault of a frame is no end of the input
  pub uncut : (e : SyncError) (held' : Operations) (owed : Bytes) → answered e ≡ answered fault.Cut → ((t : Role) (p : Point) → StandsAt t s held none p → Ends t p piece e held' owed) → ⊥
  uncut e held' owed cut feeds = let same : e ≡ fault.Cut = cc in subst (λ e. Ends role (unsent none now) piece e held' owed) same (feeds role (unsent none now) (unsent_at role s held (running.written ++ []) none now running.at))
