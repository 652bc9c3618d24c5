use Rattle.std.proofs.Common.{◌≡◌, ◌++◌, take}
use Rattle.std.specs.List.{flat_map}
use Rattle.oct_ops.specs.Operations.{listed}
use Rattle.oct_sheet.specs.Sheet.{game_sheet}
use Rattle.oct_sql.specs.Script.{game_rows}
use Rattle.oct_sql.proofs.script.append_each.Given as goal

abbrev pub invariant-loop-code : goal.invariant-loop-code
invariant-loop-code g l = l.out.items ≡ l.fn.out.items ++ flat_map (λ k. game_rows (game_sheet (listed l.fn.said.ops) k)) (take l.code-index l.codes)
