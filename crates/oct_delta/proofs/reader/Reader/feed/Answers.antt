use Rattle.std.proofs.Common.{◌≡◌, Err, ap, ◌∙◌}
use Rattle.std.proofs.lemmas.Result.{err_from_is_err_and}
use Rattle.oct_delta.specs.declared.error.DeltaError.{DeltaError}
use Rattle.oct_delta.specs.ReaderState.{fed}
use Rattle.oct_delta.proofs.Fed.{taken, refused}
use Rattle.oct_delta.proofs.reader.Reader.feed.Goals as goal

pub returns-in_err-self-inside : goal.returns-in_err-self-inside
returns-in_err-self-inside g c =
    let p = err_from_is_err_and c.from_residual.result c.from_residual.ensures.1 in
    let same : c.from_residual.result ≡ Err c.in_err-self-inside.field-0.0 = p.1 ∙ ap (λ (e : DeltaError). Err e) p.2 in
    let t = refused c.replace-state.result c.replace-state.new.dest c.in_err-self-inside.field-0.0 c.from_residual.result c.args.self.now c.args.piece.now (ap fed c.replace-state.ensures.value ∙ c.self.view_is) c.replace-state.ensures.after same c.in_err-self-inside.ensures.failed c.in_err-self-inside.ensures.tells in
    record { ok = t.ok; tag = t.tag; version = t.version; refused = t.refused; failed = t.failed; err = t.err }

pub returns : goal.returns
returns g c =
    let t = taken c.replace-state.result c.in_ok-self-inside.field-0 c.args.self.now c.args.piece.now (ap fed c.replace-state.ensures.value ∙ c.self.view_is) c.in_ok-self-inside.ensures.failed c.in_ok-self-inside.ensures.tells in
    record { ok = t.ok; tag = t.tag; version = t.version; refused = t.refused; failed = t.failed; err = t.err }
