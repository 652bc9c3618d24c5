use Rattle.std.proofs.Common.{arith, ◌<◌, ◌++◌, length, sym, ap, ◌∙◌}
use Rattle.std.proofs.lemmas.Result.{on_ok_weaker}
use Rattle.std.proofs.lemmas.Bool.{eqb-false}
use Rattle.oct_tables.proofs.TableLaws.{values_table-some}
use Rattle.oct_tables.proofs.values_table.append_values_table.Goals as goal

pub returns-clause-ok : goal.returns-clause-ok
returns-clause-ok g c =
    let some : 0 < length c.args.values.now = omega (arith, eqb-false _ _ (sym c.if-is_empty.ensures)) in
    on_ok_weaker c.append_some.result
    (λ e. e ∙ ap (λ t. c.args.out.now.items ++ t) (sym (values_table-some c.args.layout c.args.caption.now c.args.values.now some))) c.append_some.ensures.ok
