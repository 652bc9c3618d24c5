use Rattle.std.proofs.Common.{◌++◌, ap, ◌∙◌}
use Rattle.std.proofs.lemmas.Result.{on_ok_weaker}
use Rattle.std.specs.List.{concat}
use Rattle.oct_ops.specs.Operations.{listed}
use Rattle.oct_pages.specs.Catalogue.{lines_among}
use Rattle.oct_pages.proofs.BuiltGames.{none_kept}
use Rattle.oct_pages.proofs.Pagers.{all_seen}
use Rattle.oct_pages.proofs.catalogue.write_catalogue_among.Goals as goal

pub append_shown-requires : goal.append_shown-requires
append_shown-requires g c = none_kept c.args.part.now.ops c.new-kept.result c.new-kept.ensures.empty

pub returns-clause-ok : goal.returns-clause-ok
returns-clause-ok g c =
    let part = listed c.args.part.now.ops in
    on_ok_weaker c.append_shown.result (λ shown.
    shown.text ∙ ap (λ t. c.args.out.now.items ++ t) (all_seen (lines_among part (listed c.store.result.now)) ∙ ap (λ store. concat (lines_among part (listed store))) c.store.ensures)) c.append_shown.ensures.ok
