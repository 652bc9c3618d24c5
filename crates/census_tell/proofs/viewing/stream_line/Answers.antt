use Rattle.std.proofs.KnownBytes.{Appends-trans}
use Rattle.std.proofs.lemmas.Result.{on_ok_weaker}
use Rattle.std.specs.Prelude.{codes}
use Rattle.oct_json.specs.Json.{document}
use Rattle.oct_ops.specs.Operations.{listed}
use Rattle.oct_sheet.specs.Sheet.{sheet_among}
use Rattle.serde_json.specs.Written.{compact_text}
use Rattle.census_tell.proofs.viewing.stream_line.Goals as goal

pub returns : goal.returns
returns g c =
    let contents = g.W.Write.contents in
    let text = compact_text (document (sheet_among (listed c.args.part.now.ops) (listed c.args.whole.now.ops))) in
    on_ok_weaker c.write_all.result
    (λ wrote. Appends-trans (contents c.args.out.now) (contents c.stream_json.new.out) (contents c.write_all.new.self) text (codes "\n") c.in_ok-stream_json.ensures wrote)
    c.write_all.ensures.bytes
