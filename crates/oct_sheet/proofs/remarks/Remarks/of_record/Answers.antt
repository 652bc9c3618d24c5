use Rattle.std.proofs.Common.{◌≡◌, map, ap, ◌∙◌}
use Rattle.std.proofs.lemmas.Result.{IfOk-weaker}
use Rattle.oct_notes.proofs.Kept.{live_notes-of}
use Rattle.oct_notes.specs.Notes.{live_notes}
use Rattle.oct_ops.specs.Operations.{listed}
use Rattle.oct_sheet.proofs.remarks.Remarks.of_record.Goals as goal

pub returns : goal.returns
returns g c =
    let ops = c.args.said.now.ops in
    let live : map (λ o. o.now) c.in_ok-notes.notes.items ≡ live_notes (listed ops) = c.in_ok-notes.ensures ∙ ap (λ held. live_notes (listed held)) c.notes.ensures ∙ live_notes-of ops in
    IfOk-weaker c.among.result _ _ (λ found e. e ∙ live) c.among.ensures
