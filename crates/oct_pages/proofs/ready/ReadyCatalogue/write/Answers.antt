use Rattle.std.proofs.Common.{◌++◌, subst}
use Rattle.std.proofs.lemmas.Result.{on_err_weaker, on_ok_weaker}
use Rattle.std.specs.Io.KnownBytes.{Appends}
use Rattle.std.specs.List.{concat}
use Rattle.written.proofs.Piecewise.{started}
use Rattle.written.specs.Output.{AppendsFront, AppendsPrefix}
use Rattle.oct_pages.specs.HeldBlocks.{some_lines}
use Rattle.oct_pages.proofs.Flowing.{front_done, front_fails, last_cut_off, last_passed, prefix_longer, whatever}
use Rattle.oct_pages.proofs.ready.ReadyCatalogue.write.Goals as goal

pub returns-in_err-put_blocks-clause-err : goal.returns-in_err-put_blocks-clause-err
returns-in_err-put_blocks-clause-err g c =
    let inside = c.self.inside in
    let text = inside.front.items ++ concat (some_lines inside.blocks) in
    let old = g.W.Write.contents c.args.out.now in
    let now = g.W.Write.contents c.put_blocks.new.out in
    whatever c.from_residual.result (subst (AppendsPrefix old now) c.self.view_is (prefix_longer old now text inside.rest.items c.in_err-put_blocks.ensures.err))

pub returns-in_err-put-clause-err : goal.returns-in_err-put-clause-err
returns-in_err-put-clause-err g c =
    let inside = c.self.inside in
    let text = inside.front.items ++ concat (some_lines inside.blocks) in
    let rest = inside.rest.items in
    let piece = c.put_blocks.new.piece.items in
    let old = g.W.Write.contents c.args.out.now in
    let now = g.W.Write.contents c.put_blocks.new.out in
    let later = g.W.Write.contents c.put.new.out in
    let underway = started old now text piece rest c.in_ok-put_blocks.ensures.ok in
    let failed = subst (λ t. AppendsPrefix now later (piece ++ t)) c.deref.ensures.value c.in_err-put.ensures.err in
    whatever c.from_residual-in_err-put.result (subst (AppendsPrefix old later) c.self.view_is (last_cut_off old now later (text ++ rest) piece rest underway failed))

pub returns-clause-ok : goal.returns-clause-ok
returns-clause-ok g c =
    let inside = c.self.inside in
    let text = inside.front.items ++ concat (some_lines inside.blocks) in
    let rest = inside.rest.items in
    let piece = c.put_blocks.new.piece.items in
    let left = c.put.new.piece.items in
    let old = g.W.Write.contents c.args.out.now in
    let now = g.W.Write.contents c.put_blocks.new.out in
    let later = g.W.Write.contents c.put.new.out in
    let last = g.W.Write.contents c.write_out.new.writer in
    let underway = started old now text piece rest c.in_ok-put_blocks.ensures.ok in
    let behind = subst (λ t. AppendsFront now later (piece ++ t) left) c.deref.ensures.value c.in_ok-put.ensures.ok in
    let front = last_passed old now later (text ++ rest) piece rest left underway behind in
    on_ok_weaker c.write_out.result (λ wrote.
    subst (Appends old last) c.self.view_is (front_done old later last (text ++ rest) left front (subst (Appends later last) c.deref-2.ensures.value wrote))) c.write_out.ensures.ok

pub returns-clause-err : goal.returns-clause-err
returns-clause-err g c =
    let inside = c.self.inside in
    let text = inside.front.items ++ concat (some_lines inside.blocks) in
    let rest = inside.rest.items in
    let piece = c.put_blocks.new.piece.items in
    let left = c.put.new.piece.items in
    let old = g.W.Write.contents c.args.out.now in
    let now = g.W.Write.contents c.put_blocks.new.out in
    let later = g.W.Write.contents c.put.new.out in
    let last = g.W.Write.contents c.write_out.new.writer in
    let underway = started old now text piece rest c.in_ok-put_blocks.ensures.ok in
    let behind = subst (λ t. AppendsFront now later (piece ++ t) left) c.deref.ensures.value c.in_ok-put.ensures.ok in
    let front = last_passed old now later (text ++ rest) piece rest left underway behind in
    on_err_weaker c.write_out.result (λ wrote.
    subst (AppendsPrefix old last) c.self.view_is (front_fails old later last (text ++ rest) left front (subst (AppendsPrefix later last) c.deref-2.ensures.value wrote))) c.write_out.ensures.err
