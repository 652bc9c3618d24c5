use Rattle.std.proofs.Common.{◌≡◌, map, take}
use Rattle.oct_json.specs.Json.{marked_block}
use Rattle.oct_json.proofs.marked.marked_blocks.Given as goal

abbrev pub invariant-loop-row : goal.invariant-loop-row
invariant-loop-row l = l.found.items ≡ map (marked_block l.remarks) (take l.row-index l.rows)
