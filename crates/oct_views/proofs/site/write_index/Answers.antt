use Rattle.std.proofs.Common.{◌++◌, ap, ◌∙◌}
use Rattle.std.specs.Prelude.{is_ok, if◌then◌else◌}
use Rattle.oct_ops.proofs.Growing.{extended}
use Rattle.oct_ops.specs.Operations.{listed}
use Rattle.oct_sheet.specs.Sheet.{sheet}
use Rattle.oct_views.specs.Report.{index_by}
use Rattle.oct_views.proofs.site.write_index.Goals as goal

pub returns-in-Ok-clause-ok : goal.returns-in-Ok-clause-ok
returns-in-Ok-clause-ok g c =
    let all = index_by c.args.proved.now c.args.rows.now (sheet (listed c.args.said.now.ops)) in
    let text = c.deref.ensures.value ∙ c.in-Ok.ensures ∙ ap (λ t. t ++ all) c.new-text.ensures.items in
    extended c.extend_from_slice.result c.args.out.now.items c.extend_from_slice.new.self.items all
    (c.extend_from_slice.ensures.items ∙ ap (λ t. if is_ok c.extend_from_slice.result then c.args.out.now.items ++ t else c.args.out.now.items) text)
