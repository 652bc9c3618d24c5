use Rattle.std.proofs.Common.{sym}
use Rattle.std.specs.Ordering.{eq_by_cmp}
use Rattle.std.proofs.lemmas.List.Sorted.{list_any-IsPermutation}
use Rattle.oct_ops.specs.DotOrder.{dot_cmp}
use Rattle.oct_said.proofs.withdrawn.Withdrawn.new.Goals as goal

pub returns : goal.returns
returns g c d = sym (list_any-IsPermutation (eq_by_cmp dot_cmp d) _ _ c.sort_unstable.ensures.permutation)
