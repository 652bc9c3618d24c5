use Rattle.std.proofs.Common.{map, length, slice_index}
use Rattle.oct_mex.specs.Marks.{IsOneHeapBy}
use Rattle.oct_mex.proofs.Marking.{removals_more}
use Rattle.oct_mex.proofs.marks.mark_one_heaps.Goals as goal

pub loop-removed-preserved : goal.loop-removed-preserved
loop-removed-preserved g c =
    removals_more (IsOneHeapBy c.args.code.now (slice_index (map g.T.Cell.number c.args.values.now)) (length c.args.values.now)) c.loop-removed.removed
    c.args.marks.now c.loop-removed.marks c.mark_one_heap.new.marks c.loop-removed.invariant c.mark_one_heap.ensures
