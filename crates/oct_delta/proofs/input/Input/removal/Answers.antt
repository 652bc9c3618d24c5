use Rattle.std.proofs.Common.{◌≡◌, Some, None}
use Rattle.oct_ops.specs.Operation.{removing}
use Rattle.oct_ops.specs.Faults.{removal_fault}
use Rattle.oct_delta.proofs.Removals.{removal_read}
use Rattle.oct_delta.proofs.input.Input.removal.Goals as goal

pub returns : goal.returns
returns g c =
    let none : removal_fault (removing c.in_ok-dots.dots.items) ≡ None = removal_read c.args.self.now c.dot_count.new.self c.dots.new.self c.in_ok-count.count c.in_ok-dots.dots.items c.in_ok-count.ensures c.in_ok-dots.ensures in
    let fault : removal_fault (removing c.in_ok-dots.dots.items) ≡ Some c.in-Err.field-0.0 = c.in-Err.ensures.fault in
    absurd (cc (none, fault))
