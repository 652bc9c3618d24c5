-- Bytes of any number of frames, taken one part after another.
use Rattle.std.proofs.Common.{◌≡◌, ◌≤◌, [], ◌∷◌, ◌++◌, length, refl, sym, ap, ◌∙◌, subst, append_assoc}
use Rattle.std.proofs.lemmas.List.{append-nil}
use Rattle.oct_delta.specs.Text.{Bytes}
use Rattle.oct_ops.specs.Operations.{Operations}
use Rattle.oct_sync.specs.Frames.{split_frames}
use Rattle.oct_sync.specs.Session.{IsDone, Session, Point, fed, on_split, wanted}
use Rattle.oct_sync.specs.SessionState.{Fails, IsSessionState, standing_of}
use Rattle.oct_sync.specs.Standing.{Ends, IsAt, IsRest, Known, Standing, ended}
use Rattle.oct_sync.specs.declared.error.SyncError.{SyncError}
use Rattle.oct_sync.specs.declared.error.SyncError.TheVariants as fault
use Rattle.oct_sync.specs.declared.role.Role.{Role}
use Rattle.oct_sync.specs.declared.state.SessionState.{SessionState}
use Rattle.oct_sync.proofs.Cutting.{any_cutting, done_fails, split_failed}
use Rattle.oct_sync.proofs.Stepping.{still}

-- the first bytes were taken, and the rest is still to come
pub record Moved (role : Role) (p : Point) (piece rest : Bytes) (s : Standing) (held : Operations) (sent : Bytes) : Type 0 where
  pub front : Bytes
  pub cut : piece ≡ front ++ rest
  pub at : IsAt role s held sent (fed role p front)

pub begin : {A : Type 0} (role : Role) (s : SessionState A) (held : Operations) (sent : Bytes) (p : Point) (piece : Bytes) → IsSessionState s → IsAt role (standing_of role s) held sent p → Moved role p piece piece (standing_of role s) held sent
begin role s held sent p piece valid at = record {
  front = [];
  cut = refl;
  at = subst (λ q. IsAt role (standing_of role s) held sent q) (sym (still role s held sent p valid at)) at;
}

module _ (role : Role) (p : Point) (piece rest y later : Bytes) (s : Standing) (held : Operations) (sent : Bytes) (m : Moved role p piece rest s held sent) (parts : rest ≡ y ++ later) where
  cut_in : piece ≡ m.front ++ (y ++ later)
  cut_in = m.cut ∙ ap (λ z. m.front ++ z) parts

  pub moved : (s' : Standing) (held' : Operations) (sent' : Bytes) → IsAt role s' held' sent' (fed role (fed role p m.front) y) → Moved role p piece later s' held' sent'
  moved s' held' sent' at = record {
    front = m.front ++ y;
    cut = cut_in ∙ sym (append_assoc m.front y later);
    at = subst (λ q. IsAt role s' held' sent' q) (any_cutting role p m.front y) at;
  }

  ends_with : (f : SyncError) (held' : Operations) (sent' : Bytes) → (fed role (fed role p m.front) y).session ≡ ended f held' sent' → (fed role p piece).session ≡ ended f held' sent'
  ends_with f held' sent' e =
      let q = fed role (fed role p m.front) y in
      ap (λ z. (fed role p z).session) (cut_in ∙ sym (append_assoc m.front y later))
      ∙ ap (λ (r : Point). r.session) (sym (any_cutting role p (m.front ++ y) later))
      ∙ ap (λ (r : Point). (fed role r later).session) (sym (any_cutting role p m.front y))
      ∙ ap (λ (t : Session). on_split role t (split_frames (q.rest ++ later))) e
      ∙ split_failed role (ended f held' sent') f (split_frames (q.rest ++ later))

  pub failed_there : 1 ≤ length y → length y ≤ wanted (fed role p m.front) → (f : SyncError) (held' : Operations) (sent' : Bytes) → Fails role (fed role p m.front) y f held' sent' → Ends role p piece f held' sent'
  failed_there some fits fault.Frame held' sent' e = ends_with fault.Frame held' sent' e
  failed_there some fits fault.Order held' sent' e = ends_with fault.Order held' sent' e
  failed_there some fits fault.Clock held' sent' e = ends_with fault.Clock held' sent' e
  failed_there some fits fault.Delta held' sent' e = ends_with fault.Delta held' sent' e
  failed_there some fits fault.OutOfMemory held' sent' e = record { before = m.front; here = y; after = later; cut = cut_in; some = some; fits = fits; held_is = e.held_is; sent_is = e.sent_is }
  failed_there some fits fault.Failed held' sent' e = e
  failed_there some fits fault.Cut held' sent' e = e
  failed_there some fits fault.Read held' sent' e = e
  failed_there some fits fault.Write held' sent' e = e
  failed_there some fits fault.Turns held' sent' e = e

pub arrived : (role : Role) (p : Point) (piece rest : Bytes) (s : Standing) (held : Operations) (sent : Bytes) → Moved role p piece rest s held sent → rest ≡ [] → IsAt role s held sent (fed role p piece)
arrived role p piece rest s held sent m none = subst (λ z. IsAt role s held sent (fed role p z)) (sym (append-nil m.front) ∙ ap (λ z. m.front ++ z) (sym none) ∙ sym m.cut) m.at

-- a byte after the end
pub beyond_end : (role : Role) (p : Point) (piece rest : Bytes) (s : Standing) (held : Operations) (sent : Bytes) → Moved role p piece rest s held sent → s.phase ≡ IsDone → s.kept ≡ Known [] → (length rest ≡ 0 → ⊥) → (fed role p piece).session ≡ ended fault.Order held sent
beyond_end role p piece rest s held sent m done none some = past rest m.cut some
  where
    past : (rest : Bytes) → piece ≡ m.front ++ rest → (length rest ≡ 0 → ⊥) → (fed role p piece).session ≡ ended fault.Order held sent
    past [] cut some = absurd (some refl)
    past (b ∷ rest) cut some =
        let q : Point = fed role p m.front in
        let quiet : q.rest ≡ [] = subst (λ k. IsRest k q.rest) none m.at.rest in
        let session : q.session ≡ record { phase = IsDone; held = held; sent = sent } = m.at.session ∙ ap (λ phase. record { phase = phase; held = held; sent = sent }) done in
        ap (λ z. (fed role p z).session) cut
        ∙ ap (λ (r : Point). r.session) (sym (any_cutting role p m.front (b ∷ rest)))
        ∙ ap (λ z. on_split role q.session (split_frames (z ++ b ∷ rest))) quiet
        ∙ ap (λ (t : Session). on_split role t (split_frames (b ∷ rest))) session
        ∙ done_fails role (record { phase = IsDone; held = held; sent = sent }) b rest refl
