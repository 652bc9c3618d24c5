use Rattle.std.proofs.Common.{◌≡◌, map, take}
use Rattle.oct_json.specs.Json.{marked_period}
use Rattle.oct_json.proofs.marked.marked_periods.Given as goal

abbrev pub invariant-loop-row : goal.invariant-loop-row
invariant-loop-row l = l.found.items ≡ map (marked_period l.remarks) (take l.row-index l.rows)
