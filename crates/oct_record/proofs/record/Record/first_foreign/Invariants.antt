use Rattle.std.proofs.Common.{◌≡◌}
use Rattle.std.specs.List.{find}
use Rattle.oct_record.specs.Numbers.{is_foreign, foreign_of}
use Rattle.oct_record.proofs.record.Record.first_foreign.Given as goal

-- the first of those that are left is the first of all
abbrev pub invariant-loop-op : goal.invariant-loop-op
invariant-loop-op g l = find (is_foreign l.self.ops l.self.author) l.op-iterator ≡ foreign_of l.self.ops l.later.ops l.self.author
