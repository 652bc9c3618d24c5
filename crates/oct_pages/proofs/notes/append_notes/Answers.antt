use Rattle.std.proofs.Common.{map, sym, ap, ◌∙◌, subst}
use Rattle.std.proofs.lemmas.Result.{on_ok_weaker}
use Rattle.std.proofs.lemmas.Simd.{map-map}
use Rattle.oct_pages.specs.Catalogue.{note_line}
use Rattle.oct_pages.specs.Pager.{AreShown}
use Rattle.oct_pages.proofs.notes.append_notes.Goals as goal

pub returns-clause-ok : goal.returns-clause-ok
returns-clause-ok g c =
    on_ok_weaker c.show_each.result (subst (AreShown _ _ _ _)
    (sym (map-map note_line (λ r. r.now) c.deref.result.now) ∙ ap (λ l. map note_line (map (λ r. r.now) l)) c.deref.ensures.value ∙ ap (map note_line) c.in_ok-live.ensures)) c.show_each.ensures.ok
