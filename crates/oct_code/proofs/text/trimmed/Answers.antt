use Rattle.std.proofs.Common.{sym, ◌∙◌}
use Rattle.oct_code.proofs.Spelled.{trimmed-kept, trimmed-less}
use Rattle.oct_code.proofs.text.trimmed.Goals as goal

pub returns-then-last-ne48 : goal.returns-then-last-ne48
returns-then-last-ne48 c = sym (trimmed-kept _ _ _ c.in-Some.ensures.cases.0 c.if-last-ne48.true) ∙ c.loop-last.invariant

pub loop-last-preserved : goal.loop-last-preserved
loop-last-preserved c = trimmed-less _ _ _ c.in-Some.ensures.cases.0 c.if-last-ne48.false ∙ c.loop-last.invariant
