use Rattle.std.proofs.Common.{◌++◌, not, sym, ap, ◌∙◌, append-nil}
use Rattle.std.specs.Prelude.{unwrap_or}
use Rattle.std.specs.List.{list_any}
use Rattle.std.specs.Option.{option_copied}
use Rattle.oct_ops.specs.Operations.{contains, empty}
use Rattle.oct_ops.specs.OrderLaws.{op_cmp_total, op_cmp_exact}
use Rattle.oct_ops.specs.SetLaws.{listed-empty}
use Rattle.census_judge.proofs.Deciding.{none_decided}
use Rattle.census_judge.proofs.decisions.decide_game.Goals as goal

pub returns-in-None : goal.returns-in-None
returns-in-None c =
    let before = c.args.before.now.ops in
    let none = (λ i. unwrap_or (option_copied (sym c.in-None.is i)) empty) ∙ c.game.ensures in
    sym (append-nil c.args.all.now.items)
    ∙ ap (λ said. c.args.all.now.items ++ said)
    (sym (none_decided before c.args.later.now.ops c.args.code empty none (ap (list_any (λ o. not (contains before o))) (listed-empty op_cmp_total op_cmp_exact))))
