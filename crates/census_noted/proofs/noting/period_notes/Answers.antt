use Rattle.std.proofs.Common.{◌≡◌, map, ap, ◌∙◌}
use Rattle.std.specs.List.{filter_map}
use Rattle.std.proofs.lemmas.Result.{IfOk-weaker}
use Rattle.oct_notes.proofs.Kept.{live_notes-of}
use Rattle.oct_notes.specs.Notes.{live_notes}
use Rattle.oct_ops.specs.Operations.{listed}
use Rattle.oct_said.specs.Noting.{period_note_of}
use Rattle.census_noted.proofs.noting.period_notes.Goals as goal

pub returns : goal.returns
returns g c =
    let ops = c.args.said.now.ops in
    let live : map (λ o. o.now) c.in_ok-live.live.items ≡ live_notes (listed ops) = c.in_ok-live.ensures ∙ ap (λ held. live_notes (listed held)) c.notes.ensures ∙ live_notes-of ops in
    IfOk-weaker c.period_notes_among.result _ _ (λ notes e. e ∙ ap (filter_map period_note_of) (ap (map (λ o. o.now)) c.deref.ensures.value ∙ live)) c.period_notes_among.ensures
