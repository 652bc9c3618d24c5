use Rattle.std.proofs.Common.{map, length, slice_index, arith}
use Rattle.oct_mex.specs.Marks.{IsRareBy}
use Rattle.oct_mex.proofs.Marking.{removals_more, removals_three}
use Rattle.oct_mex.proofs.marks.mark_listed_options.Goals as goal

pub loop-removed-preserved-then-may_split : goal.loop-removed-preserved-then-may_split
loop-removed-preserved-then-may_split g c =
    let of = slice_index (map g.T.Cell.number c.args.values.now) in (
      omega arith,
      removals_three (IsRareBy c.args.code.now of (length c.args.values.now) c.args.heaps.now) c.loop-removed.removed c.args.marks.now c.loop-removed.marks c.mark_listed_removals.new.marks
          c.loop-removed.invariant.1 c.mark_listed_removals.ensures,
    )

pub loop-removed-preserved : goal.loop-removed-preserved
loop-removed-preserved g c =
    let of = slice_index (map g.T.Cell.number c.args.values.now) in (
      omega arith,
      removals_more (IsRareBy c.args.code.now of (length c.args.values.now) c.args.heaps.now) c.loop-removed.removed c.args.marks.now c.loop-removed.marks c.mark_listed_removal.new.marks
          c.loop-removed.invariant.1 c.mark_listed_removal.ensures,
    )
