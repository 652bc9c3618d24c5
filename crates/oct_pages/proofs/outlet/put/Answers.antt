use Rattle.std.proofs.Common.{subst}
use Rattle.std.proofs.lemmas.Result.{on_ok_weaker, on_err_weaker}
use Rattle.std.specs.Io.KnownBytes.{Appends}
use Rattle.oct_pages.proofs.Flowing.{both_written, prefix_behind}
use Rattle.oct_pages.proofs.outlet.put.Goals as goal

pub returns-clause-ok : goal.returns-clause-ok
returns-clause-ok g c =
    let old = g.W.Write.contents c.args.out.now in
    let now = g.W.Write.contents c.write_out.new.writer in
    let later = g.W.Write.contents c.write_out-2.new.writer in
    let first = subst (Appends old now) c.deref.ensures.value c.in_ok-write_out.ensures.ok in
    on_ok_weaker c.write_out-2.result (λ second. both_written old now later c.args.piece.now.items c.args.text.now c.clear.new.self.items first second c.clear.ensures.items) c.write_out-2.ensures.ok

pub returns-clause-err : goal.returns-clause-err
returns-clause-err g c =
    let old = g.W.Write.contents c.args.out.now in
    let now = g.W.Write.contents c.write_out.new.writer in
    let later = g.W.Write.contents c.write_out-2.new.writer in
    let first = subst (Appends old now) c.deref.ensures.value c.in_ok-write_out.ensures.ok in
    on_err_weaker c.write_out-2.result (λ second. prefix_behind old now later c.args.piece.now.items c.args.text.now first second) c.write_out-2.ensures.err
