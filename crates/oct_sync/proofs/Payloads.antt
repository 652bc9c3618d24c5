-- The payload of a delta frame, as a reader sees it.
use Rattle.std.proofs.Common.{◌≡◌, ℕ, zero, suc, leb, ◌+◌, ◌-◌, ◌^◌, ◌<◌, ◌≤◌, true, false, List, [], ◌∷◌, ◌++◌, length, get_or, Option, Some, None, Result, Ok, Err, refl, sym, ap, ◌∙◌, subst, append_assoc, ⊎_elim, arith}
use Rattle.std.specs.Prelude.{◌↔◌, IfSome, OnOk, OnErr, IsErrOf}
use Rattle.std.proofs.lemmas.Bool.{leb-true, leb-false}
use Rattle.std.proofs.lemmas.List.{append-nil, length-append, get_or_append_left}
use Rattle.std.proofs.lemmas.Option.{none-some}
use Rattle.oct_delta.specs.Bytes.{IsBytes}
use Rattle.oct_delta.specs.Decoding.{format_at, read_as, read_delta}
use Rattle.oct_delta.specs.Delta.{IsDeltaText}
use Rattle.oct_delta.specs.ReaderState.{HasTag, IsForeign, IsHopeless}
use Rattle.oct_delta.specs.Text.{Bytes}
use Rattle.oct_delta.specs.declared.error.DeltaError.{DeltaError}
use Rattle.oct_delta.specs.declared.error.DeltaError.TheVariants as errors
use Rattle.oct_delta.proofs.Deltas.{Law, read_none}
use Rattle.oct_ops.specs.Body.{Operation}
use Rattle.oct_ops.specs.Operations.{Operations, set_of}
use Rattle.oct_sync.specs.Session.{Phase, Session, Point, fed, on_due, on_delta, taken_in}
use Rattle.oct_sync.specs.SessionState.{IsCounted, IsDeltaFront, IsOpenPhase, kept_by, point}
use Rattle.oct_sync.specs.Standing.{EndsDelta, IsLost, IsRest, ended}
use Rattle.oct_sync.specs.declared.error.SyncError.TheVariants as fault
use Rattle.oct_sync.specs.declared.role.Role.{Role}
use Rattle.oct_sync.proofs.Stepping.{HasPayload, has_payload, payload_is, delta_tagged, delta_whole, fed_whole, split_whole}

-- ---- bytes with more bytes after them

pub bytes-append : (xs ys : Bytes) → IsBytes xs → IsBytes ys → IsBytes (xs ++ ys)
bytes-append xs ys f g i = elim (leb (suc i) (length xs)) as (λ b. leb (suc i) (length xs) ≡ b → get_or (xs ++ ys) i 0 < 256) [
  | true ↦ λ e. let within = leb-true (suc i) (length xs) e in subst (λ n. n < 256) (sym (get_or_append_left xs ys 0 i (omega (arith, within)))) (f i)
  | false ↦ λ e. let beyond = leb-false (suc i) (length xs) e in subst (λ n. n < 256) (sym (right xs ys i (omega (arith, beyond)))) (g (i - length xs))
] refl
  where
    right : (xs ys : Bytes) (i : ℕ) → length xs ≤ i → get_or (xs ++ ys) i 0 ≡ get_or ys (i - length xs) 0
    right [] ys i h = let same : i - 0 ≡ i = omega arith in sym (ap (λ j. get_or ys j 0) same)
    right (x ∷ xs) ys zero h = absurd (omega (arith, h))
    right (x ∷ xs) ys (suc i) h = right xs ys i (omega (arith, h)) ∙ (let same : i - length xs ≡ suc i - length (x ∷ xs) = omega arith in ap (λ j. get_or ys j 0) same)

foreign_more : (bytes more : Bytes) → 4 ≤ length bytes → format_at (bytes ++ more) ≡ format_at bytes
foreign_more [] more h = absurd (omega (arith, h))
foreign_more (a ∷ []) more h = absurd (omega (arith, h))
foreign_more (a ∷ b ∷ []) more h = absurd (omega (arith, h))
foreign_more (a ∷ b ∷ c ∷ []) more h = absurd (omega (arith, h))
foreign_more (a ∷ b ∷ c ∷ d ∷ bytes) more h = refl

foreign_hopeless : (bytes : Bytes) → IsForeign bytes → IsHopeless bytes
foreign_hopeless bytes foreign more ops text =
    let none : format_at (bytes ++ more) ≡ None = foreign_more bytes more foreign.0 ∙ foreign.1 in
    ⊎_elim (λ d. absurd (none-some _ (sym none ∙ ap format_at d.spelled))) (λ d. absurd (none-some _ (sym none ∙ ap format_at d.spelled))) text

hopeless_more : (bytes more : Bytes) → IsHopeless bytes → IsHopeless (bytes ++ more)
hopeless_more bytes more h rest ops text = h (more ++ rest) ops (subst (λ z. IsDeltaText z ops) (append_assoc bytes more rest) text)

-- ---- what a part of the payload makes of the rest

module _ (head : Bytes) (missing missing' : ℕ) (piece rest : Bytes) (counts : missing' + length piece ≡ missing) (are : IsBytes piece) where
  grown : (bytes : Bytes) → rest ≡ head ++ bytes → rest ++ piece ≡ head ++ (bytes ++ piece)
  grown bytes e = ap (λ z. z ++ piece) e ∙ append_assoc head bytes piece

  counted_more : (bytes : Bytes) (n : ℕ) → length bytes + missing + 1 ≡ n → length (bytes ++ piece) + missing' + 1 ≡ n
  counted_more bytes n e = let parts = length-append bytes piece in omega (arith, parts, e, counts)

  lost : (bytes : Bytes) → IsCounted head missing (Some bytes) → rest ≡ head ++ bytes → IsHopeless (bytes ++ piece) → IsLost head missing' (rest ++ piece)
  lost bytes counted e hopeless = record {
    payload = bytes ++ piece;
    spelled = grown bytes e;
    bytes = bytes-append bytes piece counted.1 are;
    hopeless = hopeless;
    counted = counted_more bytes _ counted.0;
  }

  pub fed_counted : (r : Result (Unit {0}) DeltaError) (known known' : Option Bytes) → IsCounted head missing known → OnOk r (IfSome known (λ bytes. known' ≡ Some (bytes ++ piece))) → (IsErrOf r errors.Failed ↔ (known ≡ None)) → OnErr r (known' ≡ None) → IsCounted head missing' known'
  fed_counted (Ok u) (Some bytes) known' counted ok gone err = subst (IsCounted head missing') (sym ok) (counted_more bytes _ counted.0, bytes-append bytes piece counted.1 are)
  fed_counted (Ok u) None known' counted ok gone err = absurd (differ (gone.1 refl))
    where
      differ : {x : Unit {0}} → (let s : Result (Unit {0}) DeltaError = Ok x in s ≡ Err errors.Failed) → ⊥
      differ e = cc
  fed_counted (Err e) known known' counted ok gone err = subst (IsCounted head missing') (sym err) tt

  pub fed_rest : (r : Result (Unit {0}) DeltaError) (known known' : Option Bytes) → (r ≡ Err errors.OutOfMemory → ⊥) → IsCounted head missing known
      → OnOk r (IfSome known (λ bytes. known' ≡ Some (bytes ++ piece)))
      → (IsErrOf r errors.Version → IfSome known (λ bytes. IsForeign (bytes ++ piece)))
      → (IsErrOf r errors.Refused → IfSome known (λ bytes. HasTag (bytes ++ piece) × IsHopeless (bytes ++ piece)))
      → (IsErrOf r errors.Failed ↔ (known ≡ None)) → OnErr r (known' ≡ None)
      → IsRest (kept_by head missing known) rest → IsRest (kept_by head missing' known') (rest ++ piece)
  fed_rest (Ok u) (Some bytes) known' m counted ok version refused gone err is = subst (λ k. IsRest (kept_by head missing' k) (rest ++ piece)) (sym ok) (grown bytes is)
  fed_rest (Ok u) None known' m counted ok version refused gone err is = absurd (differ (gone.1 refl))
    where
      differ : {x : Unit {0}} → (let s : Result (Unit {0}) DeltaError = Ok x in s ≡ Err errors.Failed) → ⊥
      differ e = cc
  fed_rest (Err errors.Version) (Some bytes) known' m counted ok version refused gone err is = subst (λ k. IsRest (kept_by head missing' k) (rest ++ piece)) (sym err) (lost bytes counted is (foreign_hopeless (bytes ++ piece) (version refl)))
  fed_rest (Err errors.Refused) (Some bytes) known' m counted ok version refused gone err is = subst (λ k. IsRest (kept_by head missing' k) (rest ++ piece)) (sym err) (lost bytes counted is (refused refl).1)
  fed_rest (Err errors.OutOfMemory) known known' m counted ok version refused gone err is = absurd (m refl)
  fed_rest (Err errors.Failed) (Some bytes) known' m counted ok version refused gone err is = absurd (none-some _ (sym (gone.0 refl)))
  fed_rest (Err errors.Failed) None known' m counted ok version refused gone err is = subst (λ k. IsRest (kept_by head missing' k) (rest ++ piece)) (sym err) (record {
    payload = is.payload ++ piece;
    spelled = grown is.payload is.spelled;
    bytes = bytes-append is.payload piece is.bytes are;
    hopeless = hopeless_more is.payload piece is.hopeless;
    counted = counted_more is.payload _ is.counted;
  })
  fed_rest (Err errors.Version) None known' m counted ok version refused gone err is = absurd (differ (gone.1 refl))
    where
      differ : (let s : Result (Unit {0}) DeltaError = Err errors.Version in s ≡ Err errors.Failed) → ⊥
      differ e = cc
  fed_rest (Err errors.Refused) None known' m counted ok version refused gone err is = absurd (differ (gone.1 refl))
    where
      differ : (let s : Result (Unit {0}) DeltaError = Err errors.Refused in s ≡ Err errors.Failed) → ⊥
      differ e = cc

-- ---- a whole payload

module _ (law : Law) (role : Role) (phase : Phase) (held : Operations) (sent r y head : Bytes) (missing : ℕ) (known : Option Bytes) (is_open : IsOpenPhase phase) (front : IsDeltaFront phase head missing known) (none : missing ≡ 0) where
  abbrev before : Session
  before = record { phase = phase; held = held; sent = sent }

  ends : (has : HasPayload head (r ++ y) missing) (o : Option (List Operation)) → read_delta has.payload ≡ o → fed role (point phase held sent r) y ≡ record { session = on_delta role before o; rest = [] }
  ends has o reads =
      fed_whole role phase held sent r y (r ++ y) is_open refl (on_delta role before o) (delta_whole phase head (r ++ y) missing known front has none)
      ((λ i. on_due role before (record { tag = delta_tagged phase head (r ++ y) missing known front has i; payload = payload_is phase head (r ++ y) missing known front has i })) ∙ ap (on_delta role before) reads)

pub end_ok : (law : Law) (role : Role) (phase : Phase) (held : Operations) (sent r y head : Bytes) (missing : ℕ) (known : Option Bytes) (ops : List Operation) → IsOpenPhase phase → IsDeltaFront phase head missing known → missing ≡ 0
    → IsRest (kept_by head missing known) (r ++ y) → IfSome known (λ bytes. IsDeltaText bytes ops) → (known ≡ None → ⊥)
    → fed role (point phase held sent r) y ≡ record { session = record { phase = phase; held = taken_in role held (set_of ops); sent = sent }; rest = [] }
end_ok law role phase held sent r y head missing (Some bytes) ops is_open front none rest text some =
    ends law role phase held sent r y head missing (Some bytes) is_open front none (has_payload phase head (r ++ y) missing (Some bytes) front rest) (Some ops) ((law bytes ops front.counted.1).1 text)
end_ok law role phase held sent r y head missing None ops is_open front none rest text some = absurd (some refl)

-- the frame that it ends, and the operations of its payload
pub ends_delta : (law : Law) (role : Role) (phase : Phase) (held : Operations) (sent r y head : Bytes) (missing : ℕ) (known : Option Bytes) (ops : List Operation) → IsOpenPhase phase → IsDeltaFront phase head missing known → missing ≡ 0
    → IsRest (kept_by head missing known) (r ++ y) → IfSome known (λ bytes. IsDeltaText bytes ops) → (known ≡ None → ⊥) → EndsDelta role (point phase held sent r) y ops
ends_delta law role phase held sent r y head missing (Some bytes) ops is_open front none rest text some =
    let b = r ++ y in
    let has = has_payload phase head b missing (Some bytes) front rest in
    record {
      payload = bytes;
      frame = split_whole phase b (delta_whole phase head b missing (Some bytes) front has none)
          ∙ (λ i. record { frames = record { tag = delta_tagged phase head b missing (Some bytes) front has i; payload = payload_is phase head b missing (Some bytes) front has i } ∷ []; rest = [] });
      reads = (law bytes ops front.counted.1).1 text;
      taken = ap (λ (p : Point). p.session.held) (end_ok law role phase held sent r y head missing (Some bytes) ops is_open front none rest text some);
    }
ends_delta law role phase held sent r y head missing None ops is_open front none rest text some = absurd (some refl)

-- a delta counts its operations
pub few_of : (known : Option Bytes) (ops : List Operation) → IfSome known (λ bytes. IsDeltaText bytes ops) → (known ≡ None → ⊥) → length ops < 2 ^ 32
few_of None ops text some = absurd (some refl)
few_of (Some bytes) ops text some = ⊎_elim (λ d. d.list.few) (λ d. d.list.few) text

pub end_err : (law : Law) (role : Role) (phase : Phase) (held : Operations) (sent r y head : Bytes) (missing : ℕ) (known : Option Bytes) (e : DeltaError) → IsOpenPhase phase → IsDeltaFront phase head missing known → missing ≡ 0
    → IsRest (kept_by head missing known) (r ++ y)
    → (e ≡ errors.Version → IfSome known (λ bytes. format_at bytes ≡ None))
    → (e ≡ errors.Refused → IfSome known (λ bytes. HasTag bytes × ((ops : List Operation) → ¬ IsDeltaText bytes ops)))
    → (e ≡ errors.Failed → known ≡ None) → (e ≡ errors.OutOfMemory → ⊥)
    → (fed role (point phase held sent r) y).session ≡ ended fault.Delta held sent
end_err law role phase held sent r y head missing known e is_open front none rest version refused gone memory =
    let has = has_payload phase head (r ++ y) missing known front rest in
    ap (λ (p : Point). p.session) (ends law role phase held sent r y head missing known is_open front none has None (unread known front rest e version refused gone memory))
  where
    unread : (known : Option Bytes) (front : IsDeltaFront phase head missing known) (rest : IsRest (kept_by head missing known) (r ++ y)) (e : DeltaError) → (e ≡ errors.Version → IfSome known (λ bytes. format_at bytes ≡ None))
        → (e ≡ errors.Refused → IfSome known (λ bytes. HasTag bytes × ((ops : List Operation) → ¬ IsDeltaText bytes ops))) → (e ≡ errors.Failed → known ≡ None) → (e ≡ errors.OutOfMemory → ⊥)
        → let has : HasPayload head (r ++ y) missing = has_payload phase head (r ++ y) missing known front rest in read_delta has.payload ≡ None
    unread None front rest e version refused gone memory = read_none law rest.payload rest.bytes (λ ops text. rest.hopeless [] ops (subst (λ z. IsDeltaText z ops) (sym (append-nil rest.payload)) text))
    unread (Some bytes) front rest errors.Version version refused gone memory = ap (λ o. read_as o bytes) (version refl)
    unread (Some bytes) front rest errors.Refused version refused gone memory = read_none law bytes front.counted.1 (refused refl).1
    unread (Some bytes) front rest errors.Failed version refused gone memory = absurd (none-some _ (sym (gone refl)))
    unread (Some bytes) front rest errors.OutOfMemory version refused gone memory = absurd (memory refl)
