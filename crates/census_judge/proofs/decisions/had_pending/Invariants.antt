use Rattle.std.proofs.Common.{◌≡◌, true}
use Rattle.std.specs.List.{list_all, list_any}
use Rattle.oct_ops.specs.Games.{of_code}
use Rattle.oct_ops.specs.Operations.{listed}
use Rattle.census_judge.specs.Decisions.{was_pending}
use Rattle.census_judge.proofs.decisions.had_pending.Given as goal

-- one of those that are left was pending where one of all was
abbrev pub invariant-loop-op : goal.invariant-loop-op
invariant-loop-op l = record {
  one : list_any (was_pending l.before.ops l.old) l.op-iterator ≡ list_any (was_pending l.before.ops l.old) (listed l.ops);
  each : list_all (of_code l.old.code) l.op-iterator ≡ true;
}
