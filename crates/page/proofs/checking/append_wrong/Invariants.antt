use Rattle.std.proofs.Common.{◌≤◌}
use Rattle.page.specs.Checked.{wrong_lines}
use Rattle.page.proofs.WrongLines.{SeenSoFar, wrong_from}
use Rattle.page.proofs.checking.append_wrong.Given as goal

abbrev pub invariant-loop-index : goal.invariant-loop-index
invariant-loop-index g l = record {
  few : l.wrong ≤ l.index;
  seen : SeenSoFar (wrong_lines l.values.code l.start l.claimed) (wrong_from l.values.code l.start l.claimed l.index) l.fn.text.items l.text.items l.wrong;
}
