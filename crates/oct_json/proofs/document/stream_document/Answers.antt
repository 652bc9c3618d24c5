use Rattle.std.proofs.Common.{◌≡◌, ◌++◌, map, sym, ap, ◌∙◌, subst}
use Rattle.std.proofs.lemmas.Simd.{map-map}
use Rattle.oct_notes.proofs.Kept.{live_notes-of}
use Rattle.oct_notes.specs.Notes.{live_notes}
use Rattle.oct_ops.specs.Operations.{listed}
use Rattle.oct_sheet.proofs.Streamed.{front_put, front_then}
use Rattle.oct_store.specs.Rows.{fork_rows}
use Rattle.oct_json.specs.Json.{author_data, document_of, fork_data, game_data, list, op_data}
use Rattle.oct_sheet.specs.Sheet.{authors_of, sheet}
use Rattle.oct_json.proofs.Spelled.{document_text}
use Rattle.serde_json.specs.Data.{array}
use Rattle.serde_json.specs.View.{items_of}
use Rattle.serde_json.specs.Written.{compact_text}
use Rattle.written.specs.Output.{AppendsFront}
use Rattle.oct_json.proofs.document.stream_document.Goals as goal

pub returns : goal.returns
returns g c =
    let part = c.args.part.now.ops in
    let forks = ap (list fork_data) (c.deref.ensures.value ∙ c.in_ok-forks.ensures ∙ ap (λ held. fork_rows (listed held)) c.store.ensures) in
    let live : map (λ o. o.now) c.in_ok-notes.notes.items ≡ live_notes (listed part) = c.in_ok-notes.ensures ∙ ap (λ held. live_notes (listed held)) c.notes.ensures ∙ live_notes-of part in
    let notes = ap (list (λ o. op_data o.now)) c.deref-2.ensures.value ∙ ap (λ l. array (items_of l)) (sym (map-map op_data (λ o. o.now) c.in_ok-notes.notes.items)) ∙ ap (list op_data) live in
    let authors = list author_data (authors_of (listed c.args.whole.now.ops)) in
    let games = ap (λ held. list (game_data held) (sheet (listed part)).games) c.in_ok-remarks.ensures in
    let piece = c.args.piece.now.items in
    let contents = g.W.Write.contents in
    subst (λ text. AppendsFront (contents c.args.out.now) (contents c.stream_array-2.new.out) (piece ++ text) c.append_text.new.out.items)
    (document_text authors (list fork_data c.deref.result.now) (list (game_data c.in_ok-remarks.remarks) (sheet (listed part)).games) (list (λ o. op_data o.now) c.deref-2.result.now) ∙ (λ i. compact_text (document_of authors (forks i) (games i) (notes i))))
    (front_then (contents c.args.out.now) (contents c.stream_authors.new.out) (contents c.stream_array-2.new.out) piece c.stream_authors.new.piece.items c.append_text.new.out.items _ _ c.in_ok-stream_authors.ensures
    (front_then (contents c.stream_authors.new.out) (contents c.stream_array.new.out) (contents c.stream_array-2.new.out) c.stream_authors.new.piece.items c.stream_array.new.piece.items c.append_text.new.out.items _ _ c.in_ok-stream_array.ensures
    (front_then (contents c.stream_array.new.out) (contents c.stream_games.new.out) (contents c.stream_array-2.new.out) c.stream_array.new.piece.items c.stream_games.new.piece.items c.append_text.new.out.items _ _ c.in_ok-stream_games.ensures
    (front_then (contents c.stream_games.new.out) (contents c.stream_array-2.new.out) (contents c.stream_array-2.new.out) c.stream_games.new.piece.items c.stream_array-2.new.piece.items c.append_text.new.out.items _ _ c.in_ok-stream_array-2.ensures
    (front_put (contents c.stream_array-2.new.out) c.stream_array-2.new.piece.items c.append_text.new.out.items _ c.in_ok-append_text.ensures.ok)))))
