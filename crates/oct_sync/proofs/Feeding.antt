-- What a session that was fed tells of the point at which it stands.
use Rattle.std.proofs.Common.{◌≡◌, Option, Some, None, sym, subst}
use Rattle.oct_delta.specs.Text.{Bytes}
use Rattle.oct_ops.specs.Operations.{Operations}
use Rattle.oct_sync.specs.Session.{Point, fed}
use Rattle.oct_sync.specs.SessionState.{phase_of, standing_of}
use Rattle.oct_sync.specs.Standing.{Ends, HasNotFailed, IsAt, Standing, StandsAt}
use Rattle.oct_sync.specs.declared.error.SyncError.{SyncError}
use Rattle.oct_sync.specs.declared.role.Role.{Role}
use Rattle.oct_sync.specs.declared.state.Due.{Due}
use Rattle.oct_sync.specs.declared.state.Due.TheVariants as due
use Rattle.oct_sync.specs.declared.state.SessionState.{SessionState}

-- what is due shows no fault
pub due_sound : {A : Type 0} (d : Due A) → HasNotFailed (phase_of d)
due_sound due.Clock = tt
due_sound (due.Deltas t) = tt
due_sound due.End = tt
due_sound due.Nothing = tt

-- after a refusal it stands nowhere
pub nowhere : (old : Option Standing) (held : Operations) (sent : Bytes) {X : Type 0} → old ≡ None → (role : Role) (p : Point) → StandsAt role old held sent p → X
nowhere old held sent none role p at = absurd (subst (λ (s : Option Standing). StandsAt role s held sent p) none at)

module _ {A : Type 0} (mine : Role) (s : SessionState A) (old : Option Standing) (held : Operations) (sent : Bytes) (is : Some (standing_of mine s) ≡ old) where
  stood : (role : Role) (p : Point) → StandsAt role old held sent p → IsAt role (standing_of mine s) held sent p
  stood role p at = subst (λ (v : Option Standing). StandsAt role v held sent p) (sym is) at

  -- what is told of the session's own role is told of any that it stands in
  in_any : (T : Role → Point → Type 0) → ((p : Point) → IsAt mine (standing_of mine s) held sent p → T mine p) → (role : Role) (p : Point) → StandsAt role old held sent p → T role p
  in_any T told role p at =
      let here = stood role p at in
      subst (λ (r : Role). T r p) here.role_is (told p (subst (λ (r : Role). IsAt r (standing_of mine s) held sent p) (sym here.role_is) here))

  pub stands_on : (t : SessionState A) (held' : Operations) (sent' piece : Bytes) → ((p : Point) → IsAt mine (standing_of mine s) held sent p → IsAt mine (standing_of mine t) held' sent' (fed mine p piece))
      → (role : Role) (p : Point) → StandsAt role old held sent p → IsAt role (standing_of mine t) held' sent' (fed role p piece)
  stands_on t held' sent' piece told = in_any (λ role p. IsAt role (standing_of mine t) held' sent' (fed role p piece)) told

  pub ends_so : (e : SyncError) (held' : Operations) (sent' piece : Bytes) → ((p : Point) → IsAt mine (standing_of mine s) held sent p → Ends mine p piece e held' sent')
      → (role : Role) (p : Point) → StandsAt role old held sent p → Ends role p piece e held' sent'
  ends_so e held' sent' piece told = in_any (λ role p. Ends role p piece e held' sent') told
