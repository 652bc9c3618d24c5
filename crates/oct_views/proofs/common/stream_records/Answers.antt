use Rattle.std.proofs.Common.{◌≡◌, [], map, ◌++◌, sym, ap, ◌∙◌, subst}
use Rattle.std.specs.List.{flat_map}
use Rattle.std.proofs.lemmas.List.Folds.{flat_map-map}
use Rattle.oct_notes.proofs.Kept.{live_notes-of}
use Rattle.oct_notes.specs.Notes.{live_notes}
use Rattle.oct_ops.specs.Operations.{listed}
use Rattle.oct_store.specs.Rows.{author_rows, fork_rows}
use Rattle.oct_views.specs.Index.{authors_table, forks_table, note_row, notes_columns, notes_table}
use Rattle.oct_sheet.specs.Names.{author_name, called as called_by, name_in, naming}
use Rattle.oct_sheet.specs.Sheet.{authors_of, names_of}
use Rattle.oct_tables.specs.Tables.{table}
use Rattle.oct_views.proofs.Streaming.{appended, none_put, streamed}
use Rattle.written.specs.Output.{AppendsFront}
use Rattle.oct_views.proofs.common.stream_records.Goals as goal
use Rattle.std.specs.Prelude.{codes}

pub returns : goal.returns
returns g c =
    let ops = c.args.part.now.ops in
    let all = c.args.whole.now.ops in
    let live : map (λ o. o.now) c.in_ok-notes.notes.items ≡ live_notes (listed ops) = c.in_ok-notes.ensures ∙ ap (λ held. live_notes (listed held)) c.notes-2.ensures ∙ live_notes-of ops in
    let saying : map (λ o. o.now) c.in_ok-saying.saying.items ≡ live_notes (listed all) = c.in_ok-saying.ensures ∙ ap (λ held. live_notes (listed held)) c.notes.ensures ∙ live_notes-of all in
    let called : name_in (λ text. text.now) c.in_ok-names.names ≡ author_name (names_of (listed all)) =
    λ i author. (c.in_ok-names.ensures.names author ∙ ap (λ notes. author_name (map (λ op. op.now) notes) author) c.deref-2.ensures.value
    ∙ ap (λ notes. author_name notes author) (c.in_ok-naming.ensures ∙ ap naming (ap (map (λ o. o.now)) c.deref.ensures.value ∙ saying))) i in
    let notes : flat_map (λ o. note_row (name_in (λ text. text.now) c.in_ok-names.names) o.now) c.in_ok-notes.notes.items ≡ flat_map (note_row (author_name (names_of (listed all)))) (live_notes (listed ops)) =
    sym (flat_map-map (note_row (name_in (λ text. text.now) c.in_ok-names.names)) (λ o. o.now) c.in_ok-notes.notes.items) ∙ (λ i. flat_map (note_row (called i)) (live i)) in
    let forks : c.in_ok-forks.forks.items ≡ fork_rows (listed ops) = c.in_ok-forks.ensures ∙ ap (λ held. fork_rows (listed held)) c.store.ensures in
    let authors : c.in_ok-authors.authors.items ≡ author_rows (listed all) = c.in_ok-authors.ensures ∙ ap (λ held. author_rows (listed held)) c.store-2.ensures in
    let names : c.in_ok-authors-2.authors.items ≡ authors_of (listed all) =
    c.in_ok-authors-2.ensures ∙ (λ i. map (called_by (map (λ o. o.now) (c.deref-5.ensures.value i))) (c.deref-6.ensures.value i)) ∙ (λ i. map (called_by (saying i)) (authors i)) in
    let contents = g.W.Write.contents in
    let old = contents c.args.out.now in
    let piece = c.args.piece.now.items in
    let noted = contents c.stream_table.new.out in
    let forked = contents c.stream_table-2.new.out in
    let last = contents c.stream_table-3.new.out in
    let begun = c.append_pieces.new.out.items in
    let names_of_all = author_name (names_of (listed all)) in
    let held : flat_map (λ o. note_row (name_in (λ text. text.now) c.in_ok-names.names) o.now) c.deref-3.result.now ≡ flat_map (λ o. note_row (name_in (λ text. text.now) c.in_ok-names.names) o.now) c.in_ok-notes.notes.items =
    λ i. flat_map (λ o. note_row (name_in (λ text. text.now) c.in_ok-names.names) o.now) (c.deref-3.ensures.value i) in
    let notes_put : AppendsFront old noted (begun ++ notes_table names_of_all (live_notes (listed ops))) c.stream_table.new.piece.items =
    subst (λ t. AppendsFront old noted (begun ++ table (codes "Notes") notes_columns t) c.stream_table.new.piece.items) (held ∙ notes) c.in_ok-stream_table.ensures in
    let forks_put : AppendsFront noted forked (c.stream_table.new.piece.items ++ forks_table names_of_all (fork_rows (listed ops))) c.stream_table-2.new.piece.items =
    subst (λ t. AppendsFront noted forked (c.stream_table.new.piece.items ++ t) c.stream_table-2.new.piece.items) (λ i. forks_table (called i) ((c.deref-4.ensures.value ∙ forks) i)) c.in_ok-stream_table-2.ensures in
    let authors_put : AppendsFront forked last (c.stream_table-2.new.piece.items ++ authors_table (authors_of (listed all))) c.stream_table-3.new.piece.items =
    subst (λ t. AppendsFront forked last (c.stream_table-2.new.piece.items ++ t) c.stream_table-3.new.piece.items) (ap authors_table (c.deref-7.ensures.value ∙ names)) c.in_ok-stream_table-3.ensures in
    let front = appended old old piece [] piece begun (codes "</div>\n<div id=\"records\">\n") (none_put old piece) c.in_ok-append_pieces.ensures.ok in
    let with_notes = streamed old old noted piece _ begun c.stream_table.new.piece.items (notes_table names_of_all (live_notes (listed ops))) front notes_put in
    let with_forks = streamed old noted forked piece _ c.stream_table.new.piece.items c.stream_table-2.new.piece.items (forks_table names_of_all (fork_rows (listed ops))) with_notes forks_put in
    let with_authors = streamed old forked last piece _ c.stream_table-2.new.piece.items c.stream_table-3.new.piece.items (authors_table (authors_of (listed all))) with_forks authors_put in
    (appended old last piece _ c.stream_table-3.new.piece.items c.append_pieces-2.new.out.items (codes "</div>\n") with_authors c.in_ok-append_pieces-2.ensures.ok).front
