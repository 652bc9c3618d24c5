use Rattle.std.proofs.Common.{◌≡◌, map, take}
use Rattle.oct_json.specs.Json.{said_row}
use Rattle.oct_json.proofs.marked.said_rows.Given as goal

abbrev pub invariant-loop-long : goal.invariant-loop-long
invariant-loop-long l = l.found.items ≡ map (said_row l.remarks) (take l.long-index l.said)
