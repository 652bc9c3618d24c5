use Rattle.std.proofs.Common.{◌≡◌, [], ◌∷◌, ◌++◌, map, ap, ◌∙◌, subst}
use Rattle.std.proofs.lemmas.Result.{on_ok_weaker}
use Rattle.oct_notes.proofs.Kept.{live_notes-of}
use Rattle.oct_notes.specs.Notes.{live_notes}
use Rattle.oct_ops.specs.Operations.{listed}
use Rattle.oct_store.specs.Summary as summary
use Rattle.oct_pages.specs.Catalogue.{author_line, ending, fork_line, note_line}
use Rattle.oct_pages.specs.Pager.{AreShown}
use Rattle.oct_pages.proofs.Pagers.{shown_then}
use Rattle.oct_pages.proofs.catalogue.append_rest.Goals as goal

pub returns-clause-ok : goal.returns-clause-ok
returns-clause-ok g c =
    let store = c.args.store.now in
    let ops = listed store in
    let notes = map note_line (live_notes ops) in
    let all_forks = map (fork_line ops) (summary.forks ops) in
    let whole = listed c.args.whole.now in
    let all_authors = map (author_line whole) (summary.authors whole) in
    let same : map note_line (live_notes (listed c.args.notes.now)) ≡ notes = ap (map note_line) (ap (λ held. live_notes (listed held)) c.requires ∙ live_notes-of store) in
    on_ok_weaker c.show.result (λ last.
    shown_then _ _ _ _ _ _ (notes ++ all_forks ++ all_authors) (ending ∷ [])
    (shown_then _ _ _ _ _ _ (notes ++ all_forks) all_authors
    (shown_then _ _ _ _ _ _ notes all_forks
    (subst (AreShown _ _ _ _) same c.in_ok-append_notes.ensures.ok) c.in_ok-append_forks.ensures.ok) c.in_ok-append_authors.ensures.ok) last) c.show.ensures.ok
