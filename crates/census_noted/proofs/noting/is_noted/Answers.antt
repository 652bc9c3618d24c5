use Rattle.std.proofs.Common.{◌≡◌, map, ap, ◌∙◌}
use Rattle.std.specs.List.{list_any}
use Rattle.oct_notes.proofs.Kept.{live_notes-of}
use Rattle.oct_notes.specs.Notes.{live_notes}
use Rattle.oct_ops.specs.Operations.{listed}
use Rattle.census_noted.specs.Noting.{says}
use Rattle.census_noted.proofs.noting.is_noted.Goals as goal

pub returns : goal.returns
returns g c =
    let ops = c.args.said.now.ops in
    let live : map (λ o. o.now) c.in_ok-live.live.items ≡ live_notes (listed ops) = c.in_ok-live.ensures ∙ ap (λ held. live_notes (listed held)) c.notes.ensures ∙ live_notes-of ops in
    c.are_any.ensures ∙ ap (list_any (says c.args.name.now c.args.text.now)) (ap (map (λ o. o.now)) c.deref.ensures.value ∙ live)
