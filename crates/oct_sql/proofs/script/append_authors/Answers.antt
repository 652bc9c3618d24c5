use Rattle.std.proofs.Common.{◌≡◌, ◌++◌, map, ap, ◌∙◌}
use Rattle.std.proofs.lemmas.Result.{on_ok_weaker}
use Rattle.std.specs.List.{flat_map}
use Rattle.oct_notes.proofs.Kept.{live_notes-of}
use Rattle.oct_notes.specs.Notes.{live_notes}
use Rattle.oct_ops.specs.Operations.{listed}
use Rattle.oct_store.specs.Rows.{author_rows}
use Rattle.oct_sheet.specs.Names.{called}
use Rattle.oct_sheet.specs.Sheet.{authors_of}
use Rattle.oct_sql.specs.Script.{author_row}
use Rattle.oct_sql.proofs.script.append_authors.Goals as goal

pub returns-clause-ok : goal.returns-clause-ok
returns-clause-ok g c =
    let ops = c.args.said.now.ops in
    let live : map (λ o. o.now) c.in_ok-notes.notes.items ≡ live_notes (listed ops) = c.in_ok-notes.ensures ∙ ap (λ held. live_notes (listed held)) c.notes.ensures ∙ live_notes-of ops in
    let authors : c.in_ok-authors.authors.items ≡ author_rows (listed ops) = c.in_ok-authors.ensures ∙ ap (λ held. author_rows (listed held)) c.store.ensures in
    let names : c.in_ok-authors-2.authors.items ≡ authors_of (listed ops) =
    c.in_ok-authors-2.ensures ∙ (λ i. map (called (map (λ o. o.now) (c.deref.ensures.value i))) (c.deref-2.ensures.value i)) ∙ (λ i. map (called (live i)) (authors i)) in
    on_ok_weaker c.append_rows.result (λ e. e ∙ ap (λ rows. c.args.out.now.items ++ flat_map author_row rows) (c.deref-3.ensures.value ∙ names)) c.append_rows.ensures.ok
