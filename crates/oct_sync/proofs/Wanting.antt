-- How many bytes are wanted: some while a frame is due, and never more than the longest frame has.
use Rattle.std.proofs.Common.{◌≡◌, ℕ, suc, ◌+◌, ◌-◌, ◌≤◌, true, false, leb, length, refl, ap, arith}
use Rattle.std.proofs.lemmas.Bool.{and_parts, leb-true, leb-false, le-leb}
use Rattle.oct_sync.specs.Frames.{is_length, length_field, max_frame}
use Rattle.oct_sync.specs.Session.{AwaitsClock, AwaitsDeltas, AwaitsEnd, IsDone, Phase, missing_bytes}
use Rattle.oct_sync.specs.SessionState.{IsIncoming, IsSessionState, missing_of, phase_of, wanted_by, wanted_in}
use Rattle.oct_sync.specs.Standing.{progress_in}
use Rattle.oct_sync.specs.declared.progress.Progress.TheVariants.{More}
use Rattle.oct_sync.specs.declared.state.Due.{Due}
use Rattle.oct_sync.specs.declared.state.Due.TheVariants as due
use Rattle.oct_sync.specs.declared.state.Incoming.{Incoming}
use Rattle.oct_sync.specs.declared.state.Incoming.TheVariants as incoming
use Rattle.oct_sync.specs.declared.state.SessionState.{SessionState}
use Rattle.oct_sync.proofs.Stepping.{done_from, faultless_head, not_less}

pub some_wanted : {A : Type 0} (s : SessionState A) → IsSessionState s → progress_in (phase_of s.due) ≡ More → 1 ≤ wanted_by s
some_wanted s valid more = elim (leb 1 (wanted_by s)) as (λ b. leb 1 (wanted_by s) ≡ b → 1 ≤ wanted_by s) [
  | true ↦ λ e. leb-true 1 (wanted_by s) e
  | false ↦ λ e.
      let none = leb-false 1 (wanted_by s) e in
      let done : phase_of s.due ≡ IsDone = done_from s valid (omega (arith, none)) in
      absurd (cc (ap progress_in done, more))
] refl

length_most : (n : ℕ) → is_length n ≡ true → n ≤ max_frame
length_most n is = leb-true n max_frame (and_parts (leb 1 n) (leb n max_frame) is).1

most_of : {A : Type 0} (phase : Phase) (i : Incoming A) → IsIncoming phase i → missing_of i ≤ max_frame
most_of phase (incoming.Delta d) front =
    let most = length_most (length_field d.head.items) front.0.is in
    let few = front.0.few in
    omega (arith, most, few)
most_of phase (incoming.Kept bytes) front = elim (leb 5 (length bytes.items)) as (λ b. leb 5 (length bytes.items) ≡ b → missing_bytes bytes.items ≤ max_frame) [
  | true ↦ λ e.
      let long = leb-true 5 (length bytes.items) e in
      let most = length_most (length_field bytes.items) (faultless_head phase bytes.items long front.faultless).0 in
      let counts : missing_bytes bytes.items ≡ 4 + length_field bytes.items - length bytes.items = ap (λ b. elim b [ true ↦ 5 - length bytes.items | false ↦ 4 + length_field bytes.items - length bytes.items ]) (not_less (length bytes.items) long) in
      omega (arith, counts, most, long)
  | false ↦ λ e.
      let less = leb-false 5 (length bytes.items) e in
      let counts : missing_bytes bytes.items ≡ 5 - length bytes.items = ap (λ b. elim b [ true ↦ 5 - length bytes.items | false ↦ 4 + length_field bytes.items - length bytes.items ]) (le-leb (suc (length bytes.items)) 5 (omega (arith, less))) in
      omega (arith, counts)
] refl

pub most_wanted : {A : Type 0} (s : SessionState A) → IsSessionState s → wanted_by s ≤ max_frame
most_wanted {A} s valid = most_in s.due s.incoming valid
  where
    most_in : (d : Due A) (i : Incoming A) → IsIncoming (phase_of d) i → wanted_in (phase_of d) i ≤ max_frame
    most_in due.Clock i valid = most_of AwaitsClock i valid
    most_in (due.Deltas t) i valid = most_of (AwaitsDeltas t) i valid
    most_in due.End i valid = most_of AwaitsEnd i valid
    most_in due.Nothing i valid = omega arith
