use Rattle.std.proofs.lemmas.Result.{err_from_is_err_and}
use Rattle.oct_ops.specs.DotOrder.{dot_cmp}
use Rattle.oct_delta.specs.Reading.{skipped, next_at, dot_at, dots_at}
use Rattle.oct_delta.proofs.Loops.{skips_on, skip_ends, skip_done}
use Rattle.oct_delta.proofs.input.Input.skip_dots.Goals as goal

pub returns-in_err-next_dot : goal.returns-in_err-next_dot
returns-in_err-next_dot c =
    let p = err_from_is_err_and c.from_residual.result c.from_residual.ensures.1 in
    rw (p.1, p.2) (skip_ends (next_at dot_cmp dot_at) c.loop.before c.args.count c.loop.counter c.loop.self c.in_err-next_dot.field-0.0 (skipped (dots_at c.args.count c.args.self.now)) c.loop-test.true c.in_err-next_dot.ensures c.loop.invariant)

pub loop-preserved : goal.loop-preserved
loop-preserved c = skips_on (next_at dot_cmp dot_at) c.loop.before c.args.count c.loop.counter c.loop.self c.in_ok-next_dot.field-0 c.next_dot.new.self (skipped (dots_at c.args.count c.args.self.now)) c.loop-test.true c.in_ok-next_dot.ensures c.loop.invariant

pub returns : goal.returns
returns c = skip_done (next_at dot_cmp dot_at) c.loop.before c.args.count c.loop.counter c.loop.self (skipped (dots_at c.args.count c.args.self.now)) c.loop-test.false c.loop.invariant
