use Rattle.std.proofs.Common.{◌≡◌, None, take}
use Rattle.oct_proved.specs.Periods.{period_in}
use Rattle.oct_proved.proofs.periods.ProvedPeriods.of.Given as goal

abbrev pub invariant-loop-proved : goal.invariant-loop-proved
invariant-loop-proved g l = period_in (take l.proved-index l.proved-items) l.code ≡ None
