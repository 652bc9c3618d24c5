use Rattle.oct_ops.specs.Operations.{listed}
use Rattle.oct_pages.proofs.Building.{Building}
use Rattle.oct_pages.proofs.built.build.Given as goal

abbrev pub invariant-loop-op : goal.invariant-loop-op
invariant-loop-op g l = Building l.fn.code (listed l.ops) l.op-iterator l.game
