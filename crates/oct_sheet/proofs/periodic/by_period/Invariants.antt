use Rattle.std.proofs.Common.{◌≡◌, drop}
use Rattle.std.specs.List.{filter_map}
use Rattle.oct_ops.specs.Arranged.{arranged}
use Rattle.oct_sheet.specs.Summary.{periodic_cmp, periodic_of}
use Rattle.oct_sheet.proofs.periodic.by_period.Given as goal

abbrev pub invariant-loop-place : goal.invariant-loop-place
invariant-loop-place g l = l.found.keys ≡ arranged periodic_cmp (filter_map periodic_of (drop l.place l.rows))
