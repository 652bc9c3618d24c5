use Rattle.std.proofs.Common.{◌++◌, ap, ◌∙◌}
use Rattle.std.proofs.lemmas.Result.{on_ok_weaker}
use Rattle.std.specs.List.{concat}
use Rattle.oct_ops.specs.Operations.{listed}
use Rattle.oct_pages.specs.Catalogue.{lines_among}
use Rattle.oct_pages.proofs.Pagers.{all_seen}
use Rattle.oct_pages.proofs.catalogue.write_catalogue_with.Goals as goal

pub returns-clause-ok : goal.returns-clause-ok
returns-clause-ok g c =
    let said = listed c.args.said.now.ops in
    on_ok_weaker c.append_shown.result (λ shown.
    shown.text ∙ ap (λ t. c.args.out.now.items ++ t) (all_seen (lines_among said (listed c.store.result.now)) ∙ ap (λ store. concat (lines_among said (listed store))) c.store.ensures)) c.append_shown.ensures.ok
