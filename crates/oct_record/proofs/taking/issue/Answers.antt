use Rattle.std.proofs.Common.{refl, sym, ap, ◌∙◌, ◌+◌}
use Rattle.oct_ops.specs.Body.{Operation}
use Rattle.oct_ops.specs.Operation.{dot_of}
use Rattle.oct_ops.specs.Operations.{insert, listed}
use Rattle.oct_ops.specs.Views.{content}
use Rattle.oct_store.specs.Summary.{last}
use Rattle.oct_record.specs.Content.{RecordContent}
use Rattle.oct_record.specs.Taking.{has_number, issue_error}
use Rattle.oct_record.proofs.taking.issue.Goals as goal

pub returns-in_default-clause-dot : goal.returns-in_default-clause-dot
returns-in_default-clause-dot g c = tt

pub returns-in_default-clause-ok : goal.returns-in_default-clause-ok
returns-in_default-clause-ok g c = tt

pub returns-in_default-clause-room : goal.returns-in_default-clause-room
returns-in_default-clause-room g c = tt

pub returns-in_default-clause-error : goal.returns-in_default-clause-error
returns-in_default-clause-error g c = ap issue_error (c.in_default.ensures.room ∙ ap (λ (r : RecordContent). has_number r.ops r.author) c.said.ensures)

pub returns-in_default-clause-err : goal.returns-in_default-clause-err
returns-in_default-clause-err g c = refl

pub returns-in_default-clause-returned : goal.returns-in_default-clause-returned
returns-in_default-clause-returned g c = refl

pub returns-in-Ok-clause-dot : goal.returns-in-Ok-clause-dot
returns-in-Ok-clause-dot g c = c.in-Some.ensures.dot ∙ ap (λ (r : RecordContent). dot_of r.author (last (listed r.ops) r.author + 1)) c.said.ensures

pub returns-in-Ok-clause-ok : goal.returns-in-Ok-clause-ok
returns-in-Ok-clause-ok g c =
    let old = g.H.Holder.content c.args.holder.now in
    c.in-Ok.ensures.ok
    ∙ ap (λ (o : Operation). record { author = old.author; ops = insert old.ops o }) (c.new-op.ensures
    ∙ ap (λ d. record { dot = d; body = content c.args.body }) (c.in-Some.ensures.dot ∙ ap (λ (r : RecordContent). dot_of r.author (last (listed r.ops) r.author + 1)) c.said.ensures))

pub returns-in-Ok-clause-room : goal.returns-in-Ok-clause-room
returns-in-Ok-clause-room g c = sym (c.in-Some.ensures.room ∙ ap (λ (r : RecordContent). has_number r.ops r.author) c.said.ensures)

pub returns-in-Ok-clause-error : goal.returns-in-Ok-clause-error
returns-in-Ok-clause-error g c = tt

pub returns-in-Ok-clause-err : goal.returns-in-Ok-clause-err
returns-in-Ok-clause-err g c = tt

pub returns-in-Ok-clause-returned : goal.returns-in-Ok-clause-returned
returns-in-Ok-clause-returned g c = tt

pub returns-in-Err-clause-dot : goal.returns-in-Err-clause-dot
returns-in-Err-clause-dot g c = tt

pub returns-in-Err-clause-ok : goal.returns-in-Err-clause-ok
returns-in-Err-clause-ok g c = tt

pub returns-in-Err-clause-room : goal.returns-in-Err-clause-room
returns-in-Err-clause-room g c = tt

pub returns-in-Err-clause-error : goal.returns-in-Err-clause-error
returns-in-Err-clause-error g c = ap issue_error (c.in-Some.ensures.room ∙ ap (λ (r : RecordContent). has_number r.ops r.author) c.said.ensures)

pub returns-in-Err-clause-err : goal.returns-in-Err-clause-err
returns-in-Err-clause-err g c = c.in-Err.ensures.err

pub returns-in-Err-clause-returned : goal.returns-in-Err-clause-returned
returns-in-Err-clause-returned g c = c.into_body.ensures.value ∙ ap (λ (o : Operation). o.body) c.new-op.ensures
