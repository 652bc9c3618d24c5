use Rattle.std.proofs.Common.{◌++◌, subst}
use Rattle.std.proofs.lemmas.Result.{on_ok_weaker}
use Rattle.std.specs.Io.KnownBytes.{Appends}
use Rattle.oct_json.specs.Json.{document}
use Rattle.oct_ops.specs.Operations.{listed}
use Rattle.oct_sheet.proofs.Streamed.{front_done}
use Rattle.oct_sheet.specs.Sheet.{sheet_among}
use Rattle.serde_json.specs.Written.{compact_text}
use Rattle.written.specs.Output.{AppendsFront}
use Rattle.oct_json.proofs.document.stream_json.Goals as goal

pub returns : goal.returns
returns g c =
    let contents = g.W.Write.contents in
    let text = compact_text (document (sheet_among (listed c.args.part.now.ops) (listed c.args.whole.now.ops))) in
    let mid = c.stream_document.new.out in
    let piece = c.stream_document.new.piece.items in
    let put = subst (λ front. AppendsFront (contents c.args.out.now) (contents mid) (front ++ text) piece) c.new-piece.ensures.items c.in_ok-stream_document.ensures in
    on_ok_weaker c.write_all.result
    (λ wrote. front_done (contents c.args.out.now) (contents mid) (contents c.write_all.new.self) text piece put (subst (Appends (contents mid) (contents c.write_all.new.self)) c.deref.ensures.value wrote))
    c.write_all.ensures.bytes
