use Rattle.std.proofs.Common.{◌++◌, ap, ◌∙◌, subst}
use Rattle.std.proofs.lemmas.Result.{on_ok_weaker}
use Rattle.oct_views.specs.Report.{style_sheet}
use Rattle.census_tell.specs.Site.{style}
use Rattle.census_tell.proofs.site.put_style.Goals as goal

pub returns-clause-ok : goal.returns-clause-ok
returns-clause-ok g c =
    let bytes = c.deref.ensures.value ∙ c.in_ok-write_style.ensures.ok ∙ ap (λ t. t ++ style_sheet) c.new-bytes.ensures.items in
    on_ok_weaker c.put.result (λ e. subst (λ b. g.S.Folder.puts c.args.folder.now style.name b c.put.new.self) bytes e) c.put.ensures.ok
