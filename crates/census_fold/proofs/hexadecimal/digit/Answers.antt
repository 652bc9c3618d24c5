use Rattle.std.proofs.Common.{arith, refl}
use Rattle.census_fold.specs.declared.hexadecimal.TheConstants.{VALUES}
use Rattle.census_fold.proofs.DigitTables.{a_digit, no_digit}
use Rattle.census_fold.proofs.hexadecimal.digit.Goals as goal

pub returns-then-value : goal.returns-then-value
returns-then-value c = no_digit VALUES c.args.c _ refl (omega (arith, c.ranges.c.fits)) refl c.if-value.true

pub returns-else-value : goal.returns-else-value
returns-else-value c = a_digit VALUES c.args.c _ refl (omega (arith, c.ranges.c.fits)) refl c.if-value.false
