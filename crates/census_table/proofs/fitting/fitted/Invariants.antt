use Rattle.std.proofs.Common.{◌≡◌, ◌++◌, drop}
use Rattle.census_table.specs.Fitting.{fitted, fitted_on}
use Rattle.census_table.proofs.fitting.fitted.Given as goal

abbrev pub invariant-loop-i : goal.invariant-loop-i
invariant-loop-i l = l.shown.items ++ fitted_on l.width l.spot (drop l.i l.text) ≡ fitted l.width l.text
