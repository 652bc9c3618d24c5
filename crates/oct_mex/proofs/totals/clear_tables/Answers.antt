use Rattle.std.proofs.Common.{arith}
use Rattle.std.proofs.lemmas.List.Elements.{AllWithin-more_set}
use Rattle.oct_mex.specs.Totals.{IsTable}
use Rattle.oct_mex.proofs.totals.clear_tables.Goals as goal

pub loop-at-preserved : goal.loop-at-preserved
loop-at-preserved g c = λ mask all. AllWithin-more_set c.loop-at.tables c.loop-at.at c.clear.new.self (omega arith) (IsTable mask all) (c.loop-at.invariant mask all) (c.clear.ensures mask all)

pub returns-clause-none : goal.returns-clause-none
returns-clause-none g c = λ mask all k d low. c.loop-at.invariant mask all k d (omega arith) (omega arith)
