use Rattle.std.proofs.Common.{map, slice_index, ◌+◌}
use Rattle.oct_mex.specs.Marks.{AddsMarks, IsPairValue}
use Rattle.oct_mex.proofs.marks.mark_lanes.Given as goal

abbrev pub invariant-loop-lane : goal.invariant-loop-lane
invariant-loop-lane g l = AddsMarks l.initial.marks l.marks (IsPairValue (slice_index (map g.T.Cell.number l.values)) l.rest l.from (l.from + l.lane))
