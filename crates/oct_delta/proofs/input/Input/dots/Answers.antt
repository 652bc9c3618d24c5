use Rattle.std.proofs.Common.{arith}
use Rattle.std.proofs.lemmas.Result.{err_from_is_err_and}
use Rattle.oct_ops.specs.DotOrder.{dot_cmp}
use Rattle.oct_delta.specs.declared.fault.ReadError.TheVariants as errors
use Rattle.oct_delta.specs.Reading.{next_at, dot_at, dots_at}
use Rattle.oct_delta.proofs.Loops.{goes_on, ends, is_done}
use Rattle.oct_delta.proofs.input.Input.dots.Goals as goal

pub returns-in_err-dot : goal.returns-in_err-dot
returns-in_err-dot g c =
    let p = err_from_is_err_and c.from_residual-in_err-dot.result c.from_residual-in_err-dot.ensures.1 in
    rw (p.1, p.2) (ends (next_at dot_cmp dot_at) (errors.Fault c.in_err-dot.field-0.0) c.loop.dots.items c.loop.before c.args.count c.loop.counter c.loop.self (dots_at c.args.count c.args.self.now) c.loop-test.true c.in_err-dot.ensures c.loop.invariant.read)

pub loop-preserved : goal.loop-preserved
loop-preserved g c = record {
  read = rw c.push_reserved.ensures.items (goes_on (next_at dot_cmp dot_at) c.loop.dots.items c.loop.before c.args.count c.loop.counter c.loop.self c.in_ok-dot.dot c.next_dot.new.self (dots_at c.args.count c.args.self.now) c.loop-test.true c.in_ok-dot.ensures c.loop.invariant.read);
  len = omega (arith, c.push_reserved.ensures.len, c.loop.invariant.len);
  room = omega (arith, c.push_reserved.ensures.capacity, c.loop.invariant.room);
}

pub returns : goal.returns
returns g c = is_done (next_at dot_cmp dot_at) c.loop.dots.items c.loop.before c.args.count c.loop.counter c.loop.self (dots_at c.args.count c.args.self.now) c.loop-test.false c.loop.invariant.read
