use Rattle.std.proofs.Common.{◌≡◌, drop}
use Rattle.oct_code.specs.Code.{code_cmp}
use Rattle.oct_ops.specs.Arranged.{arranged}
use Rattle.oct_sheet.proofs.games.set_of.Given as goal

abbrev pub invariant-loop-place : goal.invariant-loop-place
invariant-loop-place g l = l.found.keys ≡ arranged code_cmp (drop l.place l.codes)
