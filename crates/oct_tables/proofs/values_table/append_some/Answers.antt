use Rattle.std.proofs.Common.{ℕ, List, ◌∷◌, ◌++◌, [], sym, ap, ◌∙◌}
use Rattle.std.specs.List.{concat}
use Rattle.std.specs.Prelude.{codes}
use Rattle.std.proofs.lemmas.Result.{on_ok_weaker}
use Rattle.oct_tables.specs.Tables.{table_end, table_head}
use Rattle.oct_tables.specs.Values.{values_columns, values_rows}
use Rattle.oct_text.proofs.Joined.{joined_three}
use Rattle.oct_tables.proofs.TableLaws.{table-some, values_rows-some}
use Rattle.oct_tables.proofs.values_table.append_some.Goals as goal

pub returns-clause-ok : goal.returns-clause-ok
returns-clause-ok g c =
    let rows : ℕ → List ℕ = λ greatest. values_rows c.args.layout greatest c.args.values.now in
    on_ok_weaker c.append_table_end.result
    (λ e. e ∙ ap (λ greatest. c.args.out.now.items ++ concat (table_head (codes "values") c.args.caption.now values_columns ∷ rows greatest ∷ table_end ∷ [])) c.greatest.ensures
    ∙ ap (λ t. c.args.out.now.items ++ t) (sym (table-some (codes "values") c.args.caption.now values_columns (rows _) (values_rows-some c.args.layout _ c.args.values.now))))
    (joined_three c.append_table_end.result _ _ _ _ _ _ _ c.in_ok-append_table_head.ensures.ok c.in_ok-append_values_rows.ensures.ok c.append_table_end.ensures.ok)
