use Rattle.std.proofs.Common.{◌≡◌, ◌++◌, map, ap, ◌∙◌, subst}
use Rattle.std.proofs.lemmas.Result.{on_ok_weaker}
use Rattle.oct_notes.proofs.Kept.{live_notes-of}
use Rattle.oct_notes.specs.Notes.{live_notes}
use Rattle.oct_ops.specs.Operations.{listed}
use Rattle.oct_store.specs.Rows.{author_rows}
use Rattle.oct_json.specs.Json.{author_data, list}
use Rattle.oct_sheet.specs.Names.{called}
use Rattle.oct_sheet.specs.Sheet.{authors_of}
use Rattle.serde_json.specs.Written.{compact_text}
use Rattle.written.specs.Output.{AppendsFront}
use Rattle.oct_json.proofs.document.stream_authors.Goals as goal

pub returns : goal.returns
returns g c =
    let ops = c.args.said.now.ops in
    let rows : c.in_ok-authors.authors.items ≡ author_rows (listed ops) = c.in_ok-authors.ensures ∙ ap (λ held. author_rows (listed held)) c.store.ensures in
    let live : map (λ o. o.now) c.in_ok-notes.notes.items ≡ live_notes (listed ops) = c.in_ok-notes.ensures ∙ ap (λ held. live_notes (listed held)) c.notes.ensures ∙ live_notes-of ops in
    let called_rows : c.in_ok-called.called.items ≡ authors_of (listed ops) =
    c.in_ok-called.ensures ∙ (λ i. map (called (map (λ o. o.now) (c.deref.ensures.value i))) (c.deref-2.ensures.value i)) ∙ (λ i. map (called (live i)) (rows i)) in
    let piece = c.args.piece.now.items in
    on_ok_weaker c.stream_array.result
    (subst (λ all. AppendsFront (g.W.Write.contents c.args.out.now) (g.W.Write.contents c.stream_array.new.out) (piece ++ (c.args.before.now ++ compact_text (list author_data all))) c.stream_array.new.piece.items)
    (c.deref-3.ensures.value ∙ called_rows))
    c.stream_array.ensures
