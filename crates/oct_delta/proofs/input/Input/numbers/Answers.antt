use Rattle.std.proofs.Common.{None, arith}
use Rattle.std.specs.Int.{w32}
use Rattle.std.proofs.lemmas.Result.{err_from_is_err_and}
use Rattle.oct_delta.specs.declared.fault.ReadError.TheVariants as errors
use Rattle.oct_delta.specs.Reading.{number_at, numbers_at}
use Rattle.oct_delta.proofs.Loops.{goes_on_free, ends, is_done}
use Rattle.oct_delta.proofs.input.Input.numbers.Goals as goal

pub returns-in_err-number-clause-value : goal.returns-in_err-number-clause-value
returns-in_err-number-clause-value g c =
    let p = err_from_is_err_and c.from_residual-in_err-number.result c.from_residual-in_err-number.ensures.1 in
    rw (p.1, p.2) (ends (λ _. number_at w32) (errors.Fault c.in_err-number.field-0.0) c.loop.numbers.items None c.args.count c.loop.counter c.loop.self (numbers_at c.args.count c.args.self.now) c.loop-test.true c.in_err-number.ensures c.loop.invariant.read)

pub loop-preserved : goal.loop-preserved
loop-preserved g c = record {
  read = rw c.push_reserved.ensures.items (goes_on_free (number_at w32) c.loop.numbers.items c.args.count c.loop.counter c.loop.self c.in_ok-number.number c.u32.new.self (numbers_at c.args.count c.args.self.now) c.loop-test.true c.in_ok-number.ensures c.loop.invariant.read);
  len = omega (arith, c.push_reserved.ensures.len, c.loop.invariant.len);
  room = omega (arith, c.push_reserved.ensures.capacity, c.loop.invariant.room);
}

pub returns-clause-value : goal.returns-clause-value
returns-clause-value g c = is_done (λ _. number_at w32) c.loop.numbers.items None c.args.count c.loop.counter c.loop.self (numbers_at c.args.count c.args.self.now) c.loop-test.false c.loop.invariant.read
