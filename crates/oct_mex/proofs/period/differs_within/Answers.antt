use Rattle.std.proofs.Common.{◌+◌, map, arith, ◌∙◌}
use Rattle.oct_mex.proofs.Cells.{at}
use Rattle.oct_mex.proofs.SeenPeriods.{again_next}
use Rattle.oct_mex.proofs.period.differs_within.Goals as goal

pub loop-heap-preserved : goal.loop-heap-preserved
loop-heap-preserved g c =
    let number = g.T.Cell.number in
    let values = c.args.values.now in
    let heap = c.loop-heap.heap in
    again_next (map number values) c.args.from heap c.args.period c.number.result c.number-in-loop-heap.result c.loop-heap.differs
    (c.number.ensures ∙ at number values (heap + c.args.period) c.index-values-heap.result (omega arith) c.index-values-heap.is)
    (c.number-in-loop-heap.ensures ∙ at number values heap c.index-values-heap-in-loop-heap.result (omega arith) c.index-values-heap-in-loop-heap.is)
    c.loop-heap.invariant
