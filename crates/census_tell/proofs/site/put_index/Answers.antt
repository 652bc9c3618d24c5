use Rattle.std.proofs.Common.{◌++◌, ap, ◌∙◌, subst}
use Rattle.std.proofs.lemmas.Result.{on_ok_weaker}
use Rattle.std.specs.Prelude.{codes}
use Rattle.oct_ops.specs.Operations.{listed}
use Rattle.oct_views.specs.Report.{index_by}
use Rattle.oct_sheet.specs.Sheet.{sheet}
use Rattle.census_tell.proofs.site.put_index.Goals as goal

pub returns-clause-ok : goal.returns-clause-ok
returns-clause-ok g c =
    let text = index_by c.args.proved.now c.args.rows.now (sheet (listed c.args.held.now.ops)) in
    let bytes = c.deref.ensures.value ∙ c.in_ok-write_index.ensures.ok ∙ ap (λ t. t ++ text) c.new-bytes.ensures.items in
    on_ok_weaker c.put.result (λ e. subst (λ b. g.S.Folder.puts c.args.folder.now (codes "index.html") b c.put.new.self) bytes e) c.put.ensures.ok
