use Rattle.oct_ops.specs.Operations.{listed}
use Rattle.oct_views.proofs.Streaming.{each_put}
use Rattle.oct_views.specs.Report.{shown_section}
use Rattle.oct_sheet.specs.Sheet.{game_sheet}
use Rattle.oct_views.proofs.report.stream_each.Goals as goal

pub loop-code-preserved : goal.loop-code-preserved
loop-code-preserved g c =
    let contents = g.W.Write.contents in
    each_put (λ k. shown_section c.args.remarks.now c.args.how (game_sheet (listed c.args.said.now.ops) k)) c.args.codes.now c.loop-code.code-index _ c.code-item.result (contents c.args.out.now) (contents c.loop-code.out)
    (contents c.spill.new.out) c.args.piece.now.items c.loop-code.piece.items c.append_told.new.out.items c.spill.new.piece.items
    c.loop-code-test.true c.code-item.is c.loop-code.invariant c.in_ok-append_told.ensures c.in_ok-spill.ensures.ok
