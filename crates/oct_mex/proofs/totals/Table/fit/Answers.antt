use Rattle.oct_mex.proofs.Tables.{knows_none}
use Rattle.oct_mex.proofs.totals.Table.fit.Goals as goal

pub returns-then-has_marks-clause-kept : goal.returns-then-has_marks-clause-kept
returns-then-has_marks-clause-kept g c = λ mask all knows. knows_none mask all c.remake-has_marks.new.marks.items c.remake-has_misses.new.marks.items c.remake-has_marks.ensures.unmarked c.remake-has_misses.ensures.unmarked

pub returns-else-has_marks-clause-kept : goal.returns-else-has_marks-clause-kept
returns-else-has_marks-clause-kept g c = λ mask all knows. knows_none mask all c.remake-has_marks.new.marks.items c.remake-has_misses.new.marks.items c.remake-has_marks.ensures.unmarked c.remake-has_misses.ensures.unmarked
