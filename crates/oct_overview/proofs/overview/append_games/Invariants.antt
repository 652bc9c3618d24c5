use Rattle.std.proofs.Common.{◌≡◌, ◌++◌, take}
use Rattle.std.specs.List.{flat_map}
use Rattle.oct_ops.specs.Operations.{listed}
use Rattle.oct_pages.specs.Sheet.{game_sheet}
use Rattle.oct_overview.specs.Overview.{told_if}
use Rattle.oct_overview.proofs.overview.append_games.Given as goal

abbrev pub invariant-loop-code : goal.invariant-loop-code
invariant-loop-code g l = l.out.items ≡ l.fn.out.items ++ flat_map (λ x. told_if l.fn.which l.fn.listing l.fn.remarks (game_sheet (listed l.fn.said.ops) x)) (take l.code-index l.codes)
