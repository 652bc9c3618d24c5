use Rattle.std.proofs.Common.{◌++◌, ap, ◌∙◌, take_all}
use Rattle.std.specs.List.{flat_map}
use Rattle.oct_ops.proofs.Growing.{grown_each}
use Rattle.oct_ops.specs.Operations.{listed}
use Rattle.oct_sheet.specs.Sheet.{game_sheet}
use Rattle.oct_sql.specs.Script.{game_rows}
use Rattle.oct_sql.proofs.script.append_each.Goals as goal

pub loop-code-preserved : goal.loop-code-preserved
loop-code-preserved g c =
    grown_each (λ k. game_rows (game_sheet (listed c.args.said.now.ops) k)) c.args.codes.now c.loop-code.code-index _ c.code-item.result c.args.out.now.items c.loop-code.out.items c.append_game.new.out.items
    c.loop-code-test.true c.code-item.is c.loop-code.invariant c.in_ok-append_game.ensures.ok

pub returns-clause-ok : goal.returns-clause-ok
returns-clause-ok g c =
    c.loop-code.invariant
    ∙ ap (λ codes. c.args.out.now.items ++ flat_map (λ k. game_rows (game_sheet (listed c.args.said.now.ops) k)) codes) (take_all c.loop-code.code-index c.args.codes.now c.loop-code-test.false)
