use Rattle.std.proofs.Common.{◌≡◌, ◌+◌, ◌-◌, map, length, slice_index, arith, subst}
use Rattle.oct_mex.specs.Marks.{AddsMarks, IsBelow, IsOneHeapBy}
use Rattle.oct_mex.proofs.Marking.{rare_three, removals_more}
use Rattle.oct_mex.proofs.marks.mark_listed_removals.Goals as goal

pub loop-more-preserved : goal.loop-more-preserved
loop-more-preserved g c =
    let of = slice_index (map g.T.Cell.number c.args.values.now) in
    removals_more (λ i. IsOneHeapBy c.args.code.now of (length c.args.values.now) (c.args.removed + i)) c.loop-more.more c.args.marks.now c.loop-more.marks c.mark_one_heap.new.marks
    c.loop-more.invariant c.mark_one_heap.ensures

pub returns : goal.returns
returns g c =
    let code = c.args.code.now in
    let of = slice_index (map g.T.Cell.number c.args.values.now) in
    let n = length c.args.values.now in
    let r = c.args.removed in
    let all : c.loop-more.more ≡ 3 = omega arith in
    rare_three code of n r (n - r - 2) c.args.heaps.now c.args.marks.now c.loop-more.marks c.mark_listed_totals.new.marks (omega arith) (omega arith) c.requires.allowed
    (subst (λ end. AddsMarks c.args.marks.now c.loop-more.marks (IsBelow (λ i. IsOneHeapBy code of n (r + i)) end)) all c.loop-more.invariant) c.mark_listed_totals.ensures
