use Rattle.std.proofs.Common.{ℕ, List, ◌++◌, ◌-◌, length, drop, ap, ◌∙◌}
use Rattle.std.specs.Prelude.{codes}
use Rattle.std.proofs.lemmas.Result.{on_ok_weaker}
use Rattle.oct_tables.specs.Values.{back_layout, values_table}
use Rattle.oct_tables.specs.declared.values_table.Layout.{Layout}
use Rattle.oct_tables.proofs.values_table.append_back.Goals as goal

pub returns-clause-ok : goal.returns-clause-ok
returns-clause-ok g c =
    let out = c.args.out.now.items in
    let values = c.args.values.now in
    on_ok_weaker c.append_values_table.result
    (λ e. e ∙ ap (λ (l : Layout). out ++ values_table l (codes "The last 100 known nim-values") c.values_from.result.now) c.back_layout.ensures.value
    ∙ ap (λ (vs : List ℕ). out ++ values_table (back_layout (length values - c.back_len.result)) (codes "The last 100 known nim-values") vs) c.values_from.ensures.value
    ∙ ap (λ (count : ℕ). out ++ values_table (back_layout (length values - count)) (codes "The last 100 known nim-values") (drop (length values - count) values)) c.back_len.ensures.value)
    c.append_values_table.ensures.ok
