use Rattle.std.proofs.Common.{◌≡◌, ◌+◌, ℕ}
use Rattle.oct_ops.specs.Operations.{listed}
use Rattle.oct_log.specs.Status.{count_in, said_by}
use Rattle.oct_log.proofs.counts.counts_by_author.Given as goal

abbrev pub invariant-loop-op : goal.invariant-loop-op
invariant-loop-op g l = (author : ℕ) → count_in l.table author + said_by l.op-iterator author ≡ said_by (listed l.fn.said) author
