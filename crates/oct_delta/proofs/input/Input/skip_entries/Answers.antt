use Rattle.std.proofs.Common.{None}
use Rattle.std.proofs.lemmas.Result.{err_from_is_err_and}
use Rattle.oct_delta.specs.Reading.{skipped, chain_at, next_at}
use Rattle.oct_delta.specs.Clocks.{author_cmp, entry_at}
use Rattle.oct_delta.proofs.Loops.{skips_on, skip_ends, skip_done}
use Rattle.oct_delta.proofs.input.Input.skip_entries.Goals as goal

pub returns-in_err-next_entry : goal.returns-in_err-next_entry
returns-in_err-next_entry c =
    let p = err_from_is_err_and c.from_residual.result c.from_residual.ensures.1 in
    rw (p.1, p.2) (skip_ends (next_at author_cmp entry_at) c.loop.before c.args.count c.loop.counter c.loop.self c.in_err-next_entry.field-0.0 (skipped (chain_at (next_at author_cmp entry_at) None c.args.count c.args.self.now)) c.loop-test.true c.in_err-next_entry.ensures.value c.loop.invariant)

pub loop-preserved : goal.loop-preserved
loop-preserved c = skips_on (next_at author_cmp entry_at) c.loop.before c.args.count c.loop.counter c.loop.self c.in_ok-next_entry.field-0 c.next_entry.new.self (skipped (chain_at (next_at author_cmp entry_at) None c.args.count c.args.self.now)) c.loop-test.true c.in_ok-next_entry.ensures.value c.loop.invariant

pub returns : goal.returns
returns c = skip_done (next_at author_cmp entry_at) c.loop.before c.args.count c.loop.counter c.loop.self (skipped (chain_at (next_at author_cmp entry_at) None c.args.count c.args.self.now)) c.loop-test.false c.loop.invariant
