use Rattle.std.proofs.Common.{◌≡◌, ◌++◌, map, ap, ◌∙◌}
use Rattle.std.proofs.lemmas.Result.{IfOk-weaker}
use Rattle.oct_code.specs.Code.{code_cmp}
use Rattle.oct_notes.proofs.Kept.{live_notes-of}
use Rattle.oct_notes.specs.Notes.{live_notes}
use Rattle.oct_ops.specs.Arranged.{arranged}
use Rattle.oct_ops.specs.Operations.{listed}
use Rattle.oct_pages.specs.Catalogue.{games}
use Rattle.oct_sheet.specs.Sheet.{noted_games}
use Rattle.oct_sheet.proofs.games.told_codes.Goals as goal

pub returns : goal.returns
returns g c =
    let ops = c.args.said.now.ops in
    let live : map (λ o. o.now) c.in_ok-notes.notes.items ≡ live_notes (listed ops) = c.in_ok-notes.ensures ∙ ap (λ held. live_notes (listed held)) c.notes.ensures ∙ live_notes-of ops in
    let noted : c.in_ok-noted.noted.items ≡ noted_games (live_notes (listed ops)) = c.in_ok-noted.ensures ∙ ap noted_games (ap (map (λ o. o.now)) c.deref.ensures.value ∙ live) in
    let had = c.in_ok-codes.ensures in
    let both = c.in_ok-extend_from_slice.ensures.items in
    let more = c.deref-2.ensures.value in
    let all = c.deref-3.ensures.value in
    let codes : c.deref-3.result.now ≡ games (listed ops) ++ noted_games (live_notes (listed ops)) = cc in
    IfOk-weaker c.in_order.result _ _ (λ found e. e ∙ ap (arranged code_cmp) codes) c.in_order.ensures
