use Rattle.std.proofs.Common.{◌≡◌, ◌++◌}
use Rattle.oct_code.specs.Code.{code_cmp}
use Rattle.oct_ops.specs.Arranged.{arranged}
use Rattle.oct_sheet.proofs.games.in_order.Given as goal

abbrev pub invariant-loop-code : goal.invariant-loop-code
invariant-loop-code g l = l.found.items ++ l.code-iterator ≡ arranged code_cmp l.fn.codes
