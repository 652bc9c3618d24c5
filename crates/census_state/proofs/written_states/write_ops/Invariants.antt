use Rattle.std.proofs.Common.{◌++◌}
use Rattle.std.specs.List.{flat_map}
use Rattle.oct_delta.specs.Text.{op_bytes}
use Rattle.written.proofs.Piecewise.{IsUnderway}
use Rattle.census_state.proofs.written_states.write_ops.Given as goal

abbrev pub invariant-loop-op : goal.invariant-loop-op
invariant-loop-op g l = IsUnderway (g.W.Write.contents l.fn.out) (g.W.Write.contents l.out) (l.fn.front.items ++ flat_map op_bytes l.fn.ops) l.piece.items (flat_map op_bytes l.op-iterator)
