use Rattle.std.proofs.Common.{◌++◌, [], ◌∷◌, ◌∙◌}
use Rattle.std.proofs.lemmas.Result.{on_ok_weaker}
use Rattle.std.specs.Fmt.{decimal}
use Rattle.std.specs.Prelude.{codes}
use Rattle.oct_sql.specs.Cells.{code_literal, literal, null, row}
use Rattle.oct_sql.proofs.rows.append_claim.Goals as goal

pub returns-clause-ok : goal.returns-clause-ok
returns-clause-ok g c =
    let author = c.from.ensures ∙ c.author.ensures.value in
    let number = c.from-2.ensures ∙ c.number.ensures.value in
    let start = c.from-3.ensures ∙ c.start.ensures.value in
    let period = c.from-4.ensures ∙ c.period.ensures.value in
    on_ok_weaker c.append_row.result
    (λ e. e ∙ (λ i. c.args.out.now.items ++ row (codes "claims") (null ∷ decimal (author i) ∷ decimal (number i) ∷ code_literal c.args.code ∷ decimal (start i) ∷ decimal (period i)
    ∷ literal c.args.status.now ∷ c.number_cell.ensures i ∷ c.number_cell-2.ensures i ∷ [])))
    c.append_row.ensures.ok
