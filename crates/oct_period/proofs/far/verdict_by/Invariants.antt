use Rattle.oct_verify.proofs.Verdicts.{AgreeBelow}
use Rattle.oct_period.proofs.far.verdict_by.Given as goal

abbrev pub invariant-loop-index : goal.invariant-loop-index
invariant-loop-index g l = AgreeBelow l.block.code l.block.start l.block.values l.index
