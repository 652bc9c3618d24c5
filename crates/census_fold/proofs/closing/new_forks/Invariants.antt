use Rattle.std.proofs.Common.{◌≡◌, ◌++◌, drop}
use Rattle.census_fold.specs.Closing.{new_forks}
use Rattle.census_fold.proofs.closing.new_forks.Given as goal

-- what was found, and what is still to be found, is all
abbrev pub invariant-loop-fork : goal.invariant-loop-fork
invariant-loop-fork l = l.dots.items ++ new_forks l.rest (drop l.fork-index l.fn.later) ≡ new_forks l.fn.earlier l.fn.later
