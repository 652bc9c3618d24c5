use Rattle.std.proofs.Common.{◌++◌, ap, ◌∙◌}
use Rattle.std.proofs.lemmas.Result.{on_ok_weaker}
use Rattle.oct_ops.specs.Operations.{listed}
use Rattle.oct_pages.specs.Catalogue.{game_lines}
use Rattle.oct_pages.proofs.Pagers.{all_seen}
use Rattle.oct_pages.proofs.making_ready.append_coded.Goals as goal

pub returns-in-Some : goal.returns-in-Some
returns-in-Some g c =
    on_ok_weaker c.append_game.result (λ shown. shown.text ∙ ap (λ t. c.args.out.now.items ++ t) (all_seen (game_lines (listed c.args.said.now.ops) c.args.code))) c.append_game.ensures.ok

pub returns-in-None : goal.returns-in-None
returns-in-None g c =
    on_ok_weaker c.append_game-in-None.result (λ shown. shown.text ∙ ap (λ t. c.args.out.now.items ++ t) (all_seen (game_lines (listed c.args.said.now.ops) c.args.code))) c.append_game-in-None.ensures.ok
