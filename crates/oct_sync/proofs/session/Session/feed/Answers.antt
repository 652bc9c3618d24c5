use Rattle.std.proofs.Common.{◌≡◌, Ok, Err, Result, refl, sym, ap, ◌∙◌}
use Rattle.std.proofs.lemmas.Option.{none-some}
use Rattle.oct_sync.specs.SessionState.{standing_if}
use Rattle.oct_sync.proofs.Feeding.{due_sound, nowhere, stands_on, ends_so}
use Rattle.oct_sync.proofs.session.Session.feed.Goals as goal

same_err : {T E : Type 0} {x y : E} → (let r : Result T E = Err x in r ≡ Err y) → x ≡ y
same_err h = cc

ok_err : {T E : Type 0} {x : T} {y : E} → (let r : Result T E = Ok x in r ≡ Err y) → ⊥
ok_err h = cc

pub returns-in-Err-clause-failed : goal.returns-in-Err-clause-failed
returns-in-Err-clause-failed g c = (
  λ h. absurd (c.in-Err.ensures.sound (same_err h)),
  λ none. absurd (none-some _ (sym (sym (ap (standing_if c.self.inside.role) (sym c.take.ensures.value ∙ c.in-Some.is)) ∙ c.self.view_is ∙ none))),
)

pub returns-in_default-clause-err : goal.returns-in_default-clause-err
returns-in_default-clause-err g c = λ role p at. nowhere c.args.self.now (g.P.Peer.held c.args.peer.now) c.args.out.now.items (sym c.self.view_is ∙ ap (standing_if c.self.inside.role) (sym c.take.ensures.value ∙ c.in_default.is)) role p at

pub returns-in_default-clause-failed : goal.returns-in_default-clause-failed
returns-in_default-clause-failed g c = (λ _. sym c.self.view_is ∙ ap (standing_if c.self.inside.role) (sym c.take.ensures.value ∙ c.in_default.is), λ _. refl)

pub returns-in_default-clause-same : goal.returns-in_default-clause-same
returns-in_default-clause-same g c = λ _. (refl, refl)

pub returns-in_default-clause-after : goal.returns-in_default-clause-after
returns-in_default-clause-after g c = ap (standing_if c.self.inside.role) c.take.ensures.after

pub returns-in-Ok-clause-ok : goal.returns-in-Ok-clause-ok
returns-in-Ok-clause-ok g c = stands_on c.self.inside.role c.in-Some.state c.args.self.now (g.P.Peer.held c.args.peer.now) c.args.out.now.items (sym (ap (standing_if c.self.inside.role) (sym c.take.ensures.value ∙ c.in-Some.is)) ∙ c.self.view_is) c.in-Ok.state (g.P.Peer.held c.advance.new.peer) c.advance.new.out.items c.args.piece.now c.in-Ok.ensures.ok

pub returns-in-Ok-clause-progress : goal.returns-in-Ok-clause-progress
returns-in-Ok-clause-progress g c = c.progress_of-progress.ensures

pub returns-in-Ok-clause-sound : goal.returns-in-Ok-clause-sound
returns-in-Ok-clause-sound g c = due_sound c.in-Ok.state.due

pub returns-in-Ok-clause-author : goal.returns-in-Ok-clause-author
returns-in-Ok-clause-author g c = c.in-Ok.ensures.author

pub returns-in-Ok-clause-failed : goal.returns-in-Ok-clause-failed
returns-in-Ok-clause-failed g c = (λ h. absurd (ok_err h), λ none. absurd (none-some _ (sym (sym (ap (standing_if c.self.inside.role) (sym c.take.ensures.value ∙ c.in-Some.is)) ∙ c.self.view_is ∙ none))))

pub returns-in-Ok-clause-same : goal.returns-in-Ok-clause-same
returns-in-Ok-clause-same g c = λ none. absurd (none-some _ (sym (sym (ap (standing_if c.self.inside.role) (sym c.take.ensures.value ∙ c.in-Some.is)) ∙ c.self.view_is ∙ none)))

pub returns-in-Err-clause-err : goal.returns-in-Err-clause-err
returns-in-Err-clause-err g c = ends_so c.self.inside.role c.in-Some.state c.args.self.now (g.P.Peer.held c.args.peer.now) c.args.out.now.items (sym (ap (standing_if c.self.inside.role) (sym c.take.ensures.value ∙ c.in-Some.is)) ∙ c.self.view_is) c.in-Err.fault (g.P.Peer.held c.advance.new.peer) c.advance.new.out.items c.args.piece.now c.in-Err.ensures.err

pub returns-in-Err-clause-author : goal.returns-in-Err-clause-author
returns-in-Err-clause-author g c = c.in-Err.ensures.author

pub returns-in-Err-clause-same : goal.returns-in-Err-clause-same
returns-in-Err-clause-same g c = λ none. absurd (none-some _ (sym (sym (ap (standing_if c.self.inside.role) (sym c.take.ensures.value ∙ c.in-Some.is)) ∙ c.self.view_is ∙ none)))

pub returns-in-Err-clause-after : goal.returns-in-Err-clause-after
returns-in-Err-clause-after g c = ap (standing_if c.self.inside.role) c.take.ensures.after
