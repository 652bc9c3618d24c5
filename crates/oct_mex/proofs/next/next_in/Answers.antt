use Rattle.std.proofs.Common.{map}
use Rattle.oct_mex.proofs.next.next_in.Goals as goal

pub next_by_totals-requires-clause-tables : goal.next_by_totals-requires-clause-tables
next_by_totals-requires-clause-tables g c = c.are_ready.ensures.kept c.args.mask (map g.T.Cell.number c.args.values.now) c.requires.tables

pub returns-else-are_ready-clause-tables : goal.returns-else-are_ready-clause-tables
returns-else-are_ready-clause-tables g c = c.are_ready.ensures.kept c.args.mask (map g.T.Cell.number c.args.values.now) c.requires.tables
