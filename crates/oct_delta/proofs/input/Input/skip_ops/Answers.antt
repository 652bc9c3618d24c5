use Rattle.std.proofs.Common.{◌∙◌, Some}
use Rattle.std.proofs.lemmas.Result.{err_from_is_err_and}
use Rattle.oct_delta.specs.Reading.{ops_at, skipped}
use Rattle.oct_delta.proofs.Rising.{follows_tested, passes_on, falls, stops, at_end}
use Rattle.oct_delta.proofs.input.Input.skip_ops.Goals as goal

pub returns-in_err-text : goal.returns-in_err-text
returns-in_err-text c =
    let p = err_from_is_err_and c.from_residual.result c.from_residual.ensures.1 in
    rw (p.1, p.2) (stops c.args.limit c.loop.invariant.0 c.args.count c.loop.counter c.loop.self c.in_err-text.field-0.0 (skipped (ops_at c.args.limit c.args.count c.args.self.now)) c.loop-test.true c.in_err-text.ensures.value c.loop.invariant.2)

pub returns-then-not-is_greater : goal.returns-then-not-is_greater
returns-then-not-is_greater c =
    let before = c.loop.invariant in
    let op = c.in_ok-text.ensures.text in
    let down = follows_tested c.args.limit c.requires before.0 c.loop.previous.now op.0 c.in_ok-text.text.now c.is_greater.result before.1 op.1.fits op.2 c.is_greater.ensures ∙ c.if-not-is_greater.true in
    falls c.args.limit before.0 c.args.count c.loop.counter c.loop.self c.op_text.new.self op.0 (skipped (ops_at c.args.limit c.args.count c.args.self.now)) c.loop-test.true op.1 down before.2

pub loop-preserved : goal.loop-preserved
loop-preserved c =
    let before = c.loop.invariant in
    let op = c.in_ok-text.ensures.text in
    let up = follows_tested c.args.limit c.requires before.0 c.loop.previous.now op.0 c.in_ok-text.text.now c.is_greater.result before.1 op.1.fits op.2 c.is_greater.ensures ∙ c.if-not-is_greater.false in
    (Some op.0, (op.1.fits, op.2), passes_on c.args.limit before.0 c.args.count c.loop.counter c.loop.self c.op_text.new.self op.0 (skipped (ops_at c.args.limit c.args.count c.args.self.now)) c.loop-test.true op.1 up before.2)

pub returns : goal.returns
returns c = at_end c.args.limit c.loop.invariant.0 c.args.count c.loop.counter c.loop.self (skipped (ops_at c.args.limit c.args.count c.args.self.now)) c.loop-test.false c.loop.invariant.2
