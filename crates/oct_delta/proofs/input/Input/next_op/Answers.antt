use Rattle.std.proofs.Common.{◌≡◌, List, ℕ, refl, ap, sym, ◌∙◌}
use Rattle.oct_delta.specs.declared.fault.TextFault.{TextFault}
use Rattle.oct_delta.specs.declared.fault.TextFault.TheVariants.{Short, Malformed}
use Rattle.oct_delta.specs.Reading.{skipped, op_at}
use Rattle.oct_delta.specs.Streaming.{last_of}
use Rattle.oct_delta.proofs.Codecs.{failed}
use Rattle.oct_delta.proofs.Streams.{skipped_err, next_err, next_checked, no_fault}
use Rattle.oct_delta.proofs.input.Input.next_op.Goals as goal

pub returns-in-Err-Short : goal.returns-in-Err-Short
returns-in-Err-Short g c =
    let same : c.new-ahead.result ≡ c.args.self.now = c.new-ahead.ensures.value ∙ c.rest.ensures.rest in
    (next_err c.args.limit (last_of c.args.ops.now) c.args.self.now Short (skipped_err (op_at c.args.limit c.args.self.now) Short (ap (λ (z : List ℕ). skipped (op_at c.args.limit z)) (sym same) ∙ c.in-Err-Short.ensures ∙ ap (λ (f : TextFault). failed {A = List ℕ} f) c.in-Err-Short.field-0-is)), refl)

pub returns-in-Err-Malformed : goal.returns-in-Err-Malformed
returns-in-Err-Malformed g c =
    let same : c.new-ahead.result ≡ c.args.self.now = c.new-ahead.ensures.value ∙ c.rest.ensures.rest in
    (next_err c.args.limit (last_of c.args.ops.now) c.args.self.now Malformed (skipped_err (op_at c.args.limit c.args.self.now) Malformed (ap (λ (z : List ℕ). skipped (op_at c.args.limit z)) (sym same) ∙ c.in-Err-Malformed.ensures ∙ ap (λ (f : TextFault). failed {A = List ℕ} f) c.in-Err-Malformed.field-0-is)), refl)

pub returns-then-not-follows : goal.returns-then-not-follows
returns-then-not-follows g c = (next_checked c.args.limit (last_of c.args.ops.now) c.args.self.now c.in-Ok-op.op c.op.new.self c.in-Ok-op.ensures (sym c.follows.ensures ∙ c.if-not-follows.true), refl)

pub returns-else-not-follows : goal.returns-else-not-follows
returns-else-not-follows g c = next_checked c.args.limit (last_of c.args.ops.now) c.args.self.now c.in-Ok-op.op c.op.new.self c.in-Ok-op.ensures (sym c.follows.ensures ∙ c.if-not-follows.false)

pub returns-in-Err-Memory : goal.returns-in-Err-Memory
returns-in-Err-Memory g c = tt

pub returns-in-Err-Fault : goal.returns-in-Err-Fault
returns-in-Err-Fault g c =
    let same : c.new-ahead.result ≡ c.args.self.now = c.new-ahead.ensures.value ∙ c.rest.ensures.rest in
    absurd (no_fault c.args.limit c.args.self.now _ c.in-Err-Fault.field-0 c.in-Err-Fault.field-0-0 c.in-Err-Fault.field-0-is (ap (λ (z : List ℕ). skipped (op_at c.args.limit z)) (sym same) ∙ c.in-Ok.ensures) c.in-Err-Fault.ensures)
