use Rattle.std.proofs.Common.{◌++◌, ◌-◌, ◌≤◌, length, take, sym, ap, ◌∙◌, subst}
use Rattle.std.proofs.lemmas.Result.{on_ok_weaker}
use Rattle.oct_pages.specs.Contents.{game_content}
use Rattle.oct_json.proofs.Floats.{bare_game_float}
use Rattle.oct_json.proofs.Opening.{bare_game-long}
use Rattle.serde_json.specs.Written.{compact_text, has_float}
use Rattle.oct_json.proofs.forms.append_opening.Goals as goal

pub slice_bounds-append_text-count : goal.slice_bounds-append_text-count
slice_bounds-append_text-count c =
    let shown = game_content c.args.game.now in
    let none = ap has_float c.in_ok-value.ensures ∙ bare_game_float c.args.remarks.now shown c.args.least.now in
    let text = c.as_bytes-bytes.ensures.value ∙ c.in_ok-text.ensures.text none ∙ ap compact_text c.in_ok-value.ensures in
    subst (λ t. 2 ≤ length t) (sym text) (bare_game-long c.args.remarks.now shown c.args.least.now)

pub returns-clause-ok : goal.returns-clause-ok
returns-clause-ok c =
    let shown = game_content c.args.game.now in
    let none = ap has_float c.in_ok-value.ensures ∙ bare_game_float c.args.remarks.now shown c.args.least.now in
    let text = c.as_bytes-bytes.ensures.value ∙ c.in_ok-text.ensures.text none ∙ ap compact_text c.in_ok-value.ensures in
    on_ok_weaker c.append_text.result (λ e. e ∙ ap (λ t. c.args.out.now.items ++ take (length t - 2) t) text) c.append_text.ensures.ok
