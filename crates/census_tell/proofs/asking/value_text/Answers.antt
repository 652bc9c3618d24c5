use Rattle.std.proofs.Common.{ap, ◌∙◌}
use Rattle.std.proofs.lemmas.Result.{IfOk-weaker}
use Rattle.census_tell.specs.Asking.{value_text}
use Rattle.census_tell.proofs.Outcomes.{placed}
use Rattle.census_tell.proofs.asking.value_text.Goals as goal

pub returns : goal.returns
returns c =
    let code = c.args.game.now.code in
    let heaps = c.args.heaps.now in
    IfOk-weaker c.position_text.result _ _
    (λ text is. is ∙ placed c.args.form code heaps c.position_value.result c.position_value.ensures.right ∙ ap (value_text c.args.form code heaps) c.position_value.ensures.value) c.position_text.ensures
