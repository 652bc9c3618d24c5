use Rattle.std.proofs.Common.{List, ℕ, ◌++◌, Option, sym, append_assoc, subst}
use Rattle.std.proofs.lemmas.Result.{on_err_weaker, on_ok_weaker}
use Rattle.std.specs.Prelude.{codes}
use Rattle.written.proofs.Piecewise.{IsUnderway, begun}
use Rattle.oct_pages.specs.Catalogue.{block_head_text, status_text}
use Rattle.oct_pages.specs.Sheet.{block_row_text}
use Rattle.oct_pages.proofs.Flowing.{cut_off, last_cut_off, last_passed, passed, whatever}
use Rattle.oct_pages.proofs.outlet_lines.put_block_row.Goals as goal

three_to_come : (old : Option (List ℕ)) (piece a b c : List ℕ) → IsUnderway old old (piece ++ (a ++ b ++ c)) piece (a ++ (b ++ c))
three_to_come old piece a b c = subst (λ t. IsUnderway old old (piece ++ t) piece (a ++ (b ++ c))) (sym (append_assoc a b c)) (begun old piece (a ++ (b ++ c)))

pub returns-in_err-put_block_head-clause-err : goal.returns-in_err-put_block_head-clause-err
returns-in_err-put_block_head-clause-err g c =
    let row = c.args.row.now in
    let old = g.W.Write.contents c.args.out.now in
    let piece = c.args.piece.now.items in
    let head = block_head_text row.dot row.start row.count in
    let status = status_text row.status in
    whatever c.from_residual.result (cut_off old old _ (piece ++ block_row_text row) piece head (status ++ codes "\n") (three_to_come old piece head status (codes "\n")) c.in_err-put_block_head.ensures.err)

pub returns-in_err-put_status-clause-err : goal.returns-in_err-put_status-clause-err
returns-in_err-put_status-clause-err g c =
    let row = c.args.row.now in
    let old = g.W.Write.contents c.args.out.now in
    let now = g.W.Write.contents c.put_block_head.new.out in
    let piece = c.args.piece.now.items in
    let head = block_head_text row.dot row.start row.count in
    let status = status_text row.status in
    let text = piece ++ block_row_text row in
    let headed = passed old old now text piece head (status ++ codes "\n") c.put_block_head.new.piece.items (three_to_come old piece head status (codes "\n")) c.in_ok-put_block_head.ensures.ok in
    whatever c.from_residual-in_err-put_status.result (cut_off old now _ text c.put_block_head.new.piece.items status (codes "\n") headed c.in_err-put_status.ensures.err)

pub returns-clause-ok : goal.returns-clause-ok
returns-clause-ok g c =
    let row = c.args.row.now in
    let old = g.W.Write.contents c.args.out.now in
    let now = g.W.Write.contents c.put_block_head.new.out in
    let later = g.W.Write.contents c.put_status.new.out in
    let piece = c.args.piece.now.items in
    let head = block_head_text row.dot row.start row.count in
    let status = status_text row.status in
    let text = piece ++ block_row_text row in
    let headed = passed old old now text piece head (status ++ codes "\n") c.put_block_head.new.piece.items (three_to_come old piece head status (codes "\n")) c.in_ok-put_block_head.ensures.ok in
    let judged = passed old now later text c.put_block_head.new.piece.items status (codes "\n") c.put_status.new.piece.items headed c.in_ok-put_status.ensures.ok in
    on_ok_weaker c.put.result (last_passed old later _ text c.put_status.new.piece.items (codes "\n") c.put.new.piece.items judged) c.put.ensures.ok

pub returns-clause-err : goal.returns-clause-err
returns-clause-err g c =
    let row = c.args.row.now in
    let old = g.W.Write.contents c.args.out.now in
    let now = g.W.Write.contents c.put_block_head.new.out in
    let later = g.W.Write.contents c.put_status.new.out in
    let piece = c.args.piece.now.items in
    let head = block_head_text row.dot row.start row.count in
    let status = status_text row.status in
    let text = piece ++ block_row_text row in
    let headed = passed old old now text piece head (status ++ codes "\n") c.put_block_head.new.piece.items (three_to_come old piece head status (codes "\n")) c.in_ok-put_block_head.ensures.ok in
    let judged = passed old now later text c.put_block_head.new.piece.items status (codes "\n") c.put_status.new.piece.items headed c.in_ok-put_status.ensures.ok in
    on_err_weaker c.put.result (last_cut_off old later _ text c.put_status.new.piece.items (codes "\n") judged) c.put.ensures.err
