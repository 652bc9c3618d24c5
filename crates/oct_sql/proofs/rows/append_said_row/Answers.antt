use Rattle.std.proofs.Common.{◌++◌, [], ◌∷◌, ◌∙◌}
use Rattle.std.proofs.lemmas.Result.{on_ok_weaker}
use Rattle.std.specs.Fmt.{decimal}
use Rattle.std.specs.Prelude.{codes}
use Rattle.oct_sql.specs.Cells.{literal, null, row}
use Rattle.oct_sql.proofs.rows.append_said_row.Goals as goal

pub returns-clause-ok : goal.returns-clause-ok
returns-clause-ok g c =
    let author = c.from.ensures ∙ c.author.ensures.value in
    let number = c.from-2.ensures ∙ c.number.ensures.value in
    on_ok_weaker c.append_row.result
    (λ e. e ∙ (λ i. c.args.out.now.items ++ row (codes "operations") (null ∷ decimal (author i) ∷ decimal (number i) ∷ literal c.args.kind.now ∷ c.code_cell.ensures i ∷ literal c.args.said.now ∷ [])))
    c.append_row.ensures.ok
