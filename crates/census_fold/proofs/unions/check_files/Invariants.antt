use Rattle.std.proofs.Common.{◌≡◌, ◌+◌, map, drop}
use Rattle.census_fold.specs.Unions.{first_refused}
use Rattle.census_fold.proofs.unions.check_files.Given as goal

abbrev pub invariant-loop-index : goal.invariant-loop-index
invariant-loop-index l = first_refused (l.index + 1) (map (λ file. file.items) (drop l.index l.files)) ≡ first_refused 1 (map (λ file. file.items) l.files)
