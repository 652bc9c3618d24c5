use Rattle.std.proofs.Common.{◌∙◌, map, subst, sym}
use Rattle.oct_mex.specs.Windows.{IsSettled}
use Rattle.oct_sets.specs.Plans.{AreLast, IsParted}
use Rattle.oct_sets.specs.Sets.{reach_of}
use Rattle.oct_search.proofs.BySets.{if_some}
use Rattle.oct_search.proofs.by_sets.BySets.tell.Goals as goal

pub returns : goal.returns
returns g c told =
    let code = c.args.code.now in
    let by = c.args.self.now in
    let are = c.requires.right in
    let reach = reach_of by.sets in
    let last = subst (λ n. AreLast code n (map g.T.Cell.number c.last_values-last.result.now)) (sym are.heap) c.last_values-last.ensures.last in
    let parted = subst (IsParted code by.mask are.heaps reach) (sym are.heap) are.parted in
    subst (IsSettled code by.mask reach) are.heap (if_some c.settle.result (IsSettled code by.mask reach _) (sym c.is_some.ensures ∙ told) (c.settle.ensures.settled code are.heaps reach are.right last parted))
