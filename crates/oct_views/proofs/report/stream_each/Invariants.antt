use Rattle.std.proofs.Common.{◌++◌, take}
use Rattle.std.specs.List.{flat_map}
use Rattle.oct_ops.specs.Operations.{listed}
use Rattle.oct_views.specs.Report.{shown_section}
use Rattle.oct_sheet.specs.Sheet.{game_sheet}
use Rattle.written.specs.Output.{AppendsFront}
use Rattle.oct_views.proofs.report.stream_each.Given as goal

abbrev pub invariant-loop-code : goal.invariant-loop-code
invariant-loop-code g l =
    AppendsFront (g.W.Write.contents l.fn.out) (g.W.Write.contents l.out)
    (l.fn.piece.items ++ flat_map (λ k. shown_section l.remarks l.how (game_sheet (listed l.fn.said.ops) k)) (take l.code-index l.codes)) l.piece.items
