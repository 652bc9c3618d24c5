use Rattle.std.proofs.Common.{◌≡◌, ◌+◌, ◌-◌, length}
use Rattle.std.specs.List.{flat_map}
use Rattle.census_state.specs.declared.input.TheConstants.{INPUT_LIMIT}
use Rattle.oct_delta.specs.Text.{op_bytes}
use Rattle.oct_ops.specs.Operations.{listed}
use Rattle.census_state.proofs.written_states.is_too_long.Given as goal

abbrev pub invariant-loop-op : goal.invariant-loop-op
invariant-loop-op l = length (flat_map op_bytes (listed l.fn.said.ops)) + l.room ≡ INPUT_LIMIT - 16 + length (flat_map op_bytes l.op-iterator)
