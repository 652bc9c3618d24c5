use Rattle.std.proofs.Common.{arith, ◌<◌, ◌++◌, map, length, sym, ap, ◌∙◌}
use Rattle.std.specs.Prelude.{codes}
use Rattle.std.proofs.lemmas.Bool.{eqb-false}
use Rattle.std.proofs.lemmas.Result.{on_ok_weaker}
use Rattle.oct_text.proofs.Joined.{joined_three}
use Rattle.oct_tables.proofs.TableLaws.{table-some}
use Rattle.oct_tables.proofs.tables.append_table.Goals as goal

pub returns-clause-ok : goal.returns-clause-ok
returns-clause-ok g c =
    let rows = c.args.rows.now in
    let some : 0 < length rows = omega (arith, eqb-false _ _ (sym c.if-is_empty.ensures)) in
    on_ok_weaker c.append_table_end.result (λ e. e ∙ ap (λ t. c.args.out.now.items ++ t) (sym (table-some (codes "plain") c.args.caption.now (map (λ name. name.now) c.args.columns.now) rows some)))
    (joined_three c.append_table_end.result _ _ _ _ _ _ _ c.in_ok-append_table_head.ensures.ok c.in_ok-append_text.ensures.ok c.append_table_end.ensures.ok)
