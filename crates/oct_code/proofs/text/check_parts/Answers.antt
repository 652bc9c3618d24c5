use Rattle.std.proofs.Common.{arith}
use Rattle.oct_code.proofs.Reading.{digit_refused}
use Rattle.oct_code.proofs.text.check_parts.Goals as goal

pub returns-then-not-are_digit_bytes : goal.returns-then-not-are_digit_bytes
returns-then-not-are_digit_bytes c = digit_refused c.args.head c.args.bytes.now c.if-is_empty.ensures (grind arith) c.if-not-are_digit_bytes.ensures
