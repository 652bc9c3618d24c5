use Rattle.std.proofs.Common.{◌<◌, ◌≤◌, length, ap, subst, arith}
use Rattle.oct_delta.specs.ReaderState.{fed, IsReaderState}
use Rattle.oct_delta.proofs.Pieces.{unfinished_here, finished_here}
use Rattle.oct_delta.proofs.Ended.{before_tag, before_list, within_list, after_list, after_refusal}
use Rattle.oct_delta.proofs.reader.end.Goals as goal

pub returns-then-len-lt4 : goal.returns-then-len-lt4
returns-then-len-lt4 g c =
    let t = before_tag c.args.state _ (ap fed c.in-Begun.is) (omega (arith, c.if-len-lt4.true, c.len.ensures)) in
    record { ok = t.ok; version = t.version; refused = t.refused; failed = t.failed; memory = t.memory }

pub returns-else-len-lt4 : goal.returns-else-len-lt4
returns-else-len-lt4 g c =
    let held = subst IsReaderState c.in-Begun.is c.requires in
    let t = before_list c.args.state _ (ap fed c.in-Begun.is) held.0 (held.1 (omega (arith, c.if-len-lt4.false, c.len.ensures))) in
    record { ok = t.ok; version = t.version; refused = t.refused; failed = t.failed; memory = t.memory }

pub returns-then-len-count : goal.returns-then-len-count
returns-then-len-count g c =
    let lt : length c.in-Reading.arrived.ops.items < c.in-Reading.arrived.count = omega (arith, c.if-len-count.true, c.len-in-Reading.ensures, c.in-Reading.arrived.ops.ok) in
    let t = within_list c.args.state _ (ap fed c.in-Reading.is) (unfinished_here c.args.state c.in-Reading.arrived c.in-Reading.is c.requires lt) in
    record { ok = t.ok; version = t.version; refused = t.refused; failed = t.failed; memory = t.memory }

pub returns-else-len-count : goal.returns-else-len-count
returns-else-len-count g c =
    let le : c.in-Reading.arrived.count ≤ length c.in-Reading.arrived.ops.items = omega (arith, c.if-len-count.false, c.len-in-Reading.ensures, c.in-Reading.arrived.ops.ok) in
    let t = after_list c.args.state _ c.of_rising.result (ap fed c.in-Reading.is) (finished_here c.args.state c.in-Reading.arrived c.of_rising.result c.in-Reading.is c.requires le c.of_rising.ensures) in
    record { ok = t.ok; version = t.version; refused = t.refused; failed = t.failed; memory = t.memory }

pub returns-in-Failed : goal.returns-in-Failed
returns-in-Failed g c =
    let t = after_refusal c.args.state (ap fed c.in-Failed.is) in
    record { ok = t.ok; version = t.version; refused = t.refused; failed = t.failed; memory = t.memory }
