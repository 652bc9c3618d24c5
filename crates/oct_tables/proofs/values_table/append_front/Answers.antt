use Rattle.std.proofs.Common.{◌++◌, ◌∙◌}
use Rattle.std.specs.Prelude.{codes}
use Rattle.std.proofs.lemmas.Result.{on_ok_weaker}
use Rattle.oct_tables.specs.Values.{values_table}
use Rattle.oct_tables.proofs.values_table.append_front.Goals as goal

pub returns-clause-ok : goal.returns-clause-ok
returns-clause-ok g c =
    on_ok_weaker c.append_values_table.result
    (λ e. e ∙ (λ i. c.args.out.now.items ++ values_table (c.front_layout.ensures.value i) (codes "Nim-values: each row from the heap at its head on") (c.front_values.ensures.value i)))
    c.append_values_table.ensures.ok
