use Rattle.std.proofs.Common.{◌≡◌, drop}
use Rattle.oct_left.proofs.Sweep.{swept}
use Rattle.oct_left.proofs.span.first_missing.Given as goal

abbrev pub invariant-loop-span : goal.invariant-loop-span
invariant-loop-span l = swept l.missing (drop l.span-index l.spans) ≡ swept 1 l.spans
