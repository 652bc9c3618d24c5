use Rattle.std.proofs.Common.{arith, ◌<◌, sym, ◌∙◌}
use Rattle.oct_bfile.specs.Bfile.{bfile_text}
use Rattle.oct_mex.specs.NimValues.{nim_values}
use Rattle.oct_mex.proofs.NimValues.{nim_values-at, nim_values-length}
use Rattle.page.proofs.Searches.{row_more, rows_end}
use Rattle.page.proofs.searching.rows.Goals as goal

pub loop-heap-preserved : goal.loop-heap-preserved
loop-heap-preserved g c =
    let game = c.args.game.now in
    let values = nim_values game.code game.len in
    let low : c.loop-heap.heap < game.len = omega arith in
    row_more c.loop-heap.text.items c.append_row.new.text.items values (bfile_text values) c.loop-heap.heap c.known.result (omega (arith, nim_values-length game.code game.len, low))
    (c.known.ensures ∙ sym (nim_values-at game.code game.len c.loop-heap.heap low)) c.in_ok-append_row.ensures c.loop-heap.invariant

pub returns : goal.returns
returns g c =
    let game = c.args.game.now in
    let values = nim_values game.code game.len in
    rows_end c.loop-heap.text.items values (bfile_text values) c.loop-heap.heap (omega (arith, nim_values-length game.code game.len, c.loop-heap-test.false)) c.loop-heap.invariant
