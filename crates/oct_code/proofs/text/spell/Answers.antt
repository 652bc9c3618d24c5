use Rattle.oct_code.proofs.Written.{written}
use Rattle.oct_code.proofs.text.spell.Goals as goal

pub loop-place-preserved : goal.loop-place-preserved
loop-place-preserved c = written _ 46 c.loop-place.place _ c.args.digits.now c.loop-place-test.true c.requires.short c.loop-place.invariant
