use Rattle.std.proofs.Common.{arith, subst, w32}
use Rattle.std.specs.Int.Count.{trailing_of_zero}
use Rattle.bitsets.specs.Sets.{Has}
use Rattle.bitsets.proofs.Bits.{has_below, has_not}
use Rattle.bitsets.proofs.narrow.U32Word.least.Goals as goal

pub returns-clause-below : goal.returns-clause-below
returns-clause-below c = λ v low. has_below w32 c.args.self v c.ranges.self.fits (omega (arith, low, c.trailing_ones.ensures))

pub returns-clause-none : goal.returns-clause-none
returns-clause-none c = λ small has. has_not w32 c.args.self (trailing_of_zero 32) c.ranges.self.fits (omega (arith, small, c.trailing_ones.ensures)) (subst (λ x. Has c.args.self x) c.trailing_ones.ensures has)
