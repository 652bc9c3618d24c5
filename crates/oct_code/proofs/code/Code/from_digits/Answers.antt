use Rattle.std.proofs.Common.{sym}
use Rattle.oct_code.proofs.Accepted.{accepted}
use Rattle.oct_code.specs.Fields.{stored}
use Rattle.oct_code.proofs.code.Code.from_digits.Goals as goal

pub invariant_of-result : goal.invariant_of-result
invariant_of-result c = rw c.copy_from_slice.ensures.after (stored c.args.head c.args.digits.now (accepted _ _ (sym c.in_ok-check_digits.ensures)))
