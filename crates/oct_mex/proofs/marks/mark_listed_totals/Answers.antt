use Rattle.std.proofs.Common.{map, slice_index}
use Rattle.oct_mex.proofs.Marking.{totals_more}
use Rattle.oct_mex.proofs.marks.mark_listed_totals.Goals as goal

pub loop-at-preserved : goal.loop-at-preserved
loop-at-preserved g c = totals_more (slice_index (map g.T.Cell.number c.args.values.now)) c.args.heaps.now c.args.rest c.loop-at.at c.args.marks.now c.loop-at.marks c.mark_pairs_with.new.marks
    c.loop-at.invariant c.mark_pairs_with.ensures
