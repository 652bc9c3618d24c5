use Rattle.std.proofs.Common.{◌++◌, ap, ◌∙◌}
use Rattle.std.proofs.lemmas.Result.{on_ok_weaker}
use Rattle.oct_pages.specs.Contents.{game_content}
use Rattle.oct_json.specs.Json.{count, game_by, list}
use Rattle.oct_json.proofs.Opening.{values_put}
use Rattle.serde_json.specs.Written.{compact_text}
use Rattle.oct_json.proofs.forms.append_game_json.Goals as goal

pub returns-clause-ok : goal.returns-clause-ok
returns-clause-ok c =
    let shown = game_content c.args.game.now in
    let old = c.args.out.now.items in
    on_ok_weaker c.append_text.result
    (λ e. values_put c.args.remarks.now shown c.args.least.now old c.append_opening.new.out.items c.append_numbers.new.out.items c.append_text.new.out.items
    c.in_ok-append_opening.ensures.ok c.in_ok-append_numbers.ensures.ok e
    ∙ ap (λ least. old ++ compact_text (game_by c.args.remarks.now shown least (list count shown.values))) c.requires)
    c.append_text.ensures.ok
