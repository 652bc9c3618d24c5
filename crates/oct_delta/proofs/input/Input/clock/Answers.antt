use Rattle.std.proofs.Common.{◌≡◌, ◌-◌, arith, None, [], ap, ◌∙◌}
use Rattle.std.proofs.lemmas.Result.{err_from_is_err_and}
use Rattle.oct_join.specs.Clock.{entries}
use Rattle.oct_delta.specs.declared.fault.ReadError.TheVariants as errors
use Rattle.oct_delta.specs.Reading.{chain_at, next_at}
use Rattle.oct_delta.specs.Clocks.{author_cmp, entry_at}
use Rattle.oct_delta.proofs.Loops.{goes_on, ends, is_done}
use Rattle.oct_delta.proofs.ClockTexts.{raised_by, entries_empty, with_front_nil}
use Rattle.oct_delta.proofs.input.Input.clock.Goals as goal

pub loop-init : goal.loop-init
loop-init g c =
    let none : entries c.new-clock.result ≡ [] = ap entries c.new-clock.ensures ∙ entries_empty in
    let all : c.args.count - 0 ≡ c.args.count = omega arith in
    record { read = rw (none, all) (with_front_nil (chain_at (next_at author_cmp entry_at) None c.args.count c.args.self.now)); up = none }

pub returns-in_err-entry : goal.returns-in_err-entry
returns-in_err-entry g c =
    let p = err_from_is_err_and c.from_residual.result c.from_residual.ensures.1 in
    rw (p.1, p.2) (ends (next_at author_cmp entry_at) (errors.Fault c.in_err-entry.field-0.0) (entries c.loop.clock) c.loop.before c.args.count c.loop.counter c.loop.self (chain_at (next_at author_cmp entry_at) None c.args.count c.args.self.now) c.loop-test.true c.in_err-entry.ensures.value c.loop.invariant.read)

pub loop-preserved : goal.loop-preserved
loop-preserved g c =
    let one = raised_by c.loop.before c.in_ok-entry.entry c.loop.clock c.raise.new.self c.loop.invariant.up c.in_ok-entry.ensures.above c.in_ok-entry.ensures.valid c.in_ok-raise.ensures.ok in
    record {
      read = rw (one.0) (goes_on (next_at author_cmp entry_at) (entries c.loop.clock) c.loop.before c.args.count c.loop.counter c.loop.self c.in_ok-entry.entry c.next_entry.new.self (chain_at (next_at author_cmp entry_at) None c.args.count c.args.self.now) c.loop-test.true c.in_ok-entry.ensures.value c.loop.invariant.read);
      up = one.1;
    }

pub returns : goal.returns
returns g c = is_done (next_at author_cmp entry_at) (entries c.loop.clock) c.loop.before c.args.count c.loop.counter c.loop.self (chain_at (next_at author_cmp entry_at) None c.args.count c.args.self.now) c.loop-test.false c.loop.invariant.read
