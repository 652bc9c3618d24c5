use Rattle.std.proofs.Common.{◌++◌}
use Rattle.std.specs.List.{flat_map}
use Rattle.oct_delta.specs.Text.{op_bytes}
use Rattle.census_fold.proofs.Hashing.{IsHashing}
use Rattle.census_fold.proofs.digests.hash_of.Given as goal

abbrev pub invariant-loop-op : goal.invariant-loop-op
invariant-loop-op l = IsHashing l.hasher (l.fn.head.items ++ flat_map op_bytes l.fn.ops) l.piece.items (flat_map op_bytes l.op-iterator)
