use Rattle.std.proofs.Common.{◌++◌, ◌∙◌}
use Rattle.std.specs.Prelude.{codes}
use Rattle.std.proofs.lemmas.Result.{on_ok_weaker}
use Rattle.oct_pages.specs.Catalogue.{dot_text}
use Rattle.oct_ops.proofs.Growing.{grown_four_times, regrouped}
use Rattle.oct_pages.proofs.notes.append_note.Goals as goal

pub returns-clause-ok : goal.returns-clause-ok
returns-clause-ok g c =
    let dot = dot_text c.args.dot in
    on_ok_weaker c.append_text.result (λ last.
    grown_four_times c.args.out.now.items _ _ _ _ _ _ _ _ c.in_ok-append_labelled_text.ensures.ok c.in_ok-append_labelled_dot.ensures.ok c.in_ok-append_labelled_text-2.ensures.ok last
    ∙ (λ i. c.args.out.now.items ++ (codes "note " ++ c.name.ensures.value i ++ (codes " " ++ dot) ++ (codes " " ++ c.text.ensures.value i) ++ codes "\n"))
    ∙ (λ i. c.args.out.now.items ++ (regrouped (codes "note " ++ c.args.note.now.name) (codes " ") dot (codes " ") c.args.note.now.text i ++ codes "\n"))) c.append_text.ensures.ok
