use Rattle.std.proofs.Common.{◌++◌, length, ◌∙◌}
use Rattle.oct_text.proofs.Joined.{joined_four}
use Rattle.oct_sql.specs.Script.{game_row}
use Rattle.oct_sql.proofs.script.append_sheet.Goals as goal

pub returns-clause-ok : goal.returns-clause-ok
returns-clause-ok g c =
    joined_four c.append_rows-2.result _ _ _ _ _ _ _ _ _
    (c.in_ok-append_game_row.ensures.ok ∙ (λ i. c.args.out.now.items ++ game_row c.args.game.now.code (length c.args.game.now.values.now) (c.requires i)))
    c.in_ok-append_values_row.ensures.ok (rw c.deref.ensures.value at c.in_ok-append_rows.ensures.ok) (rw c.deref-2.ensures.value at c.append_rows-2.ensures.ok)
