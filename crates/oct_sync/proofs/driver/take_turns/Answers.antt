use Rattle.std.proofs.Common.{◌≡◌, [], refl, sym, ap, subst, ◌∙◌}
use Rattle.std.proofs.KnownBytes.{Keeps-refl}
use Rattle.std.proofs.lemmas.Result.{err_from_is_err_and}
use Rattle.oct_sync.specs.Standing.{StandsSound, progress_of}
use Rattle.oct_sync.specs.declared.progress.Progress.{Progress}
use Rattle.oct_sync.specs.declared.progress.Progress.TheVariants.{More, Done}
use Rattle.oct_sync.proofs.Running.{IsRunning-begun, IsRunning-sent, IsRunning-fed, Breaks-sending, Breaks-reading, Breaks-feeding, RunsOut-feeding, concluded, uncut}
use Rattle.oct_sync.proofs.driver.take_turns.Goals as goal

more_done : More ≡ Done → ⊥
more_done e = cc

still_more : (p : Progress) → (p ≡ Done → ⊥) → p ≡ More
still_more More not_done = refl
still_more Done not_done = absurd (not_done refl)

pub loop-init : goal.loop-init
loop-init g c = record {
  running = IsRunning-begun c.args.role _ _ (g.P.Peer.held c.args.peer.now) c.args.session.now [] c.args.owed.now.items c.requires.at refl c.requires.owed;
  author = refl;
  sound = subst StandsSound (sym c.requires.at) tt;
  more = ap progress_of c.requires.at;
  room = c.requires.room;
}

pub returns-in_err-send-clause-err : goal.returns-in_err-send-clause-err
returns-in_err-send-clause-err g c =
    let p = err_from_is_err_and c.from_residual.result c.from_residual.ensures.1 in
    rw (p.1, p.2) (λ _. Breaks-sending _ _ _ _ _ _ _ _ _ c.loop.invariant.running c.loop.invariant.sound _ c.in_err-send.ensures.err)

pub returns-in-Done-clause-ok : goal.returns-in-Done-clause-ok
returns-in-Done-clause-ok g c =
    concluded _ _ _ _ _ _ _ _ _ _ _ (IsRunning-sent _ _ _ _ _ _ _ _ _ c.loop.invariant.running _ c.in_ok-send.ensures.ok) c.in_ok-send.ensures.empty c.in_ok-count.ensures.ok
    _ _ _ c.in_ok-progress.ensures.ok c.loop.invariant.sound (λ done. more_done (sym c.loop.invariant.more ∙ done)) (sym c.in_ok-progress.ensures.progress ∙ c.in-Done.is)

pub returns-in_err-count-clause-err : goal.returns-in_err-count-clause-err
returns-in_err-count-clause-err g c =
    let p = err_from_is_err_and c.from_residual-in_err-count.result c.from_residual-in_err-count.ensures.1 in
    rw (p.1, p.2) (λ _. Breaks-reading _ _ _ _ _ _ _ _ _ (IsRunning-sent _ _ _ _ _ _ _ _ _ c.loop.invariant.running _ c.in_ok-send.ensures.ok) c.loop.invariant.sound (λ done. more_done (sym c.loop.invariant.more ∙ done)) _ c.in_err-count.ensures.outside _ c.in_err-count.ensures.err)

pub returns-in_err-progress-clause-err : goal.returns-in_err-progress-clause-err
returns-in_err-progress-clause-err g c =
    let p = err_from_is_err_and c.from_residual-in_err-progress.result c.from_residual-in_err-progress.ensures.1 in
    rw (p.1, p.2) (λ memory. Breaks-feeding _ _ _ _ _ _ _ _ _ _ _ (IsRunning-sent _ _ _ _ _ _ _ _ _ c.loop.invariant.running _ c.in_ok-send.ensures.ok) c.in_ok-send.ensures.empty c.in_ok-count.ensures.ok
    c.in_err-progress.field-0.0 _ _ memory c.in_err-progress.ensures.err)

pub loop-preserved : goal.loop-preserved
loop-preserved g c = record {
  running = IsRunning-fed _ _ _ _ _ _ _ _ _ _ _ (IsRunning-sent _ _ _ _ _ _ _ _ _ c.loop.invariant.running _ c.in_ok-send.ensures.ok) c.in_ok-send.ensures.empty c.in_ok-count.ensures.ok
      _ _ _ c.in_ok-progress.ensures.ok;
  author = c.in_ok-progress.ensures.author ∙ c.loop.invariant.author;
  sound = c.in_ok-progress.ensures.sound;
  more = sym c.in_ok-progress.ensures.progress ∙ still_more _ c.in_default.not-Done;
  room = rw c.receive.ensures.room c.loop.invariant.room;
}

pub returns-in_err-send-2-clause-err : goal.returns-in_err-send-2-clause-err
returns-in_err-send-2-clause-err g c =
    let p = err_from_is_err_and c.from_residual-in_err-send-2.result c.from_residual-in_err-send-2.ensures.1 in
    rw (p.1, p.2) (λ _. Breaks-sending _ _ _ _ _ _ _ _ _ c.loop.invariant.running c.loop.invariant.sound _ c.in_err-send-2.ensures.err)

pub returns-clause-err : goal.returns-clause-err
returns-clause-err g c _ =
    Breaks-reading _ _ _ _ _ _ _ _ _ (IsRunning-sent _ _ _ _ _ _ _ _ _ c.loop.invariant.running _ c.in_ok-send-2.ensures.ok) c.loop.invariant.sound (λ done. more_done (sym c.loop.invariant.more ∙ done)) _ tt _ (Keeps-refl _)

pub returns-in_err-progress-clause-memory : goal.returns-in_err-progress-clause-memory
returns-in_err-progress-clause-memory g c =
    let p = err_from_is_err_and c.from_residual-in_err-progress.result c.from_residual-in_err-progress.ensures.1 in
    rw (p.1, p.2) (λ memory. RunsOut-feeding _ _ _ _ _ _ _ _ _ _ _ (IsRunning-sent _ _ _ _ _ _ _ _ _ c.loop.invariant.running _ c.in_ok-send.ensures.ok) c.in_ok-send.ensures.empty c.in_ok-count.ensures.ok
    c.in_err-progress.field-0.0 _ _ memory c.in_err-progress.ensures.err)

pub returns-in_err-progress-clause-cut : goal.returns-in_err-progress-clause-cut
returns-in_err-progress-clause-cut g c =
    let p = err_from_is_err_and c.from_residual-in_err-progress.result c.from_residual-in_err-progress.ensures.1 in
    rw (p.1, p.2) (λ cut. absurd (uncut _ _ _ _ _ _ _ _ _ _ _ (IsRunning-sent _ _ _ _ _ _ _ _ _ c.loop.invariant.running _ c.in_ok-send.ensures.ok) c.in_ok-send.ensures.empty c.in_ok-count.ensures.ok
    c.in_err-progress.field-0.0 _ _ cut c.in_err-progress.ensures.err))
