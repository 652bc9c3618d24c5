use Rattle.std.proofs.Common.{◌≡◌, drop, map}
use Rattle.oct_ops.specs.Operations.{empty}
use Rattle.census_fold.specs.Reading.{held_onto}
use Rattle.census_fold.proofs.reading.held_together.Given as goal

abbrev pub invariant-loop-file : goal.invariant-loop-file
invariant-loop-file l = held_onto l.all (map (λ file. file.items) (drop l.file-index l.files)) ≡ held_onto empty (map (λ file. file.items) l.files)
