use Rattle.std.proofs.Common.{◌++◌, sym, ap, ◌∙◌, append-nil}
use Rattle.std.specs.Prelude.{unwrap_or}
use Rattle.std.specs.List.{flat_map}
use Rattle.std.specs.Option.{option_copied}
use Rattle.oct_ops.specs.Operations.{empty, listed}
use Rattle.oct_ops.specs.OrderLaws.{op_cmp_total, op_cmp_exact}
use Rattle.oct_ops.specs.SetLaws.{listed-empty}
use Rattle.oct_pages.specs.GamesIn.{content_in}
use Rattle.census_judge.specs.Verdicts.{judged_op}
use Rattle.census_judge.proofs.verdicts.judge_game.Goals as goal

pub returns-in-None : goal.returns-in-None
returns-in-None c =
    let says = judged_op c.args.before.now.ops (content_in c.args.later.now.ops c.args.code) in
    let none = (λ i. unwrap_or (option_copied (sym c.in-None.is i)) empty) ∙ c.game.ensures in
    sym (append-nil c.args.all.now.items)
    ∙ ap (λ said. c.args.all.now.items ++ said) (ap (flat_map says) (sym (listed-empty op_cmp_total op_cmp_exact)) ∙ ap (λ ops. flat_map says (listed ops)) none)
