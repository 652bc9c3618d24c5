use Rattle.std.proofs.Common.{◌≡◌, true, ◌++◌}
use Rattle.std.specs.List.{flat_map, list_all}
use Rattle.oct_ops.specs.Games.{of_code}
use Rattle.oct_ops.specs.Operations.{listed}
use Rattle.oct_ops.specs.Sets.{contains}
use Rattle.oct_pages.specs.Catalogue.{blocks_of}
use Rattle.census_judge.specs.Decisions.{decided_op}
use Rattle.census_judge.proofs.decisions.decide_ops.Given as goal

abbrev pub invariant-loop-op : goal.invariant-loop-op
invariant-loop-op l = record {
  all : l.all.items ++ flat_map (decided_op l.before.ops l.old l.game) l.op-iterator ≡ l.fn.all.items ++ flat_map (decided_op l.before.ops l.old l.game) (listed l.ops);
  held : list_all (contains l.game.blocks) (blocks_of l.game.code l.op-iterator) ≡ true;
  each : list_all (of_code l.game.code) l.op-iterator ≡ true;
}
