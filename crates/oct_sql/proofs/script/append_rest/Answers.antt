use Rattle.std.proofs.Common.{◌≡◌, ◌++◌, map, sym, ap, ◌∙◌}
use Rattle.std.proofs.lemmas.List.Folds.{flat_map-map}
use Rattle.std.proofs.lemmas.Result.{on_ok_weaker}
use Rattle.std.specs.List.{flat_map}
use Rattle.oct_notes.proofs.Kept.{live_notes-of}
use Rattle.oct_notes.specs.Notes.{live_notes}
use Rattle.oct_ops.specs.Operations.{listed}
use Rattle.oct_store.specs.Rows.{fork_rows}
use Rattle.oct_text.proofs.Joined.{joined_three}
use Rattle.oct_sql.specs.Script.{fork_row, note_row}
use Rattle.oct_sql.proofs.script.append_rest.Goals as goal

pub returns-clause-ok : goal.returns-clause-ok
returns-clause-ok g c =
    let ops = c.args.said.now.ops in
    let live : map (λ o. o.now) c.in_ok-notes.notes.items ≡ live_notes (listed ops) = c.in_ok-notes.ensures ∙ ap (λ held. live_notes (listed held)) c.notes.ensures ∙ live_notes-of ops in
    let notes : flat_map (λ o. note_row o.now) c.deref.result.now ≡ flat_map note_row (live_notes (listed ops)) =
    ap (flat_map (λ o. note_row o.now)) c.deref.ensures.value ∙ sym (flat_map-map note_row (λ o. o.now) c.in_ok-notes.notes.items) ∙ ap (flat_map note_row) live in
    let forks = c.deref-2.ensures.value ∙ c.in_ok-forks.ensures ∙ ap (λ held. fork_rows (listed held)) c.store.ensures in
    joined_three c.append_rows-2.result _ _ _ _ _ _ _
    c.in_ok-append_ops.ensures.ok
    (c.in_ok-append_rows.ensures.ok ∙ ap (λ t. c.append_ops.new.out.items ++ t) notes)
    (on_ok_weaker c.append_rows-2.result (λ e. e ∙ ap (λ rows. c.append_rows.new.out.items ++ flat_map fork_row rows) forks) c.append_rows-2.ensures.ok)
