use Rattle.std.proofs.Common.{◌≡◌, ◌++◌, false, not, sym, ap, ◌∙◌, append-nil}
use Rattle.std.specs.List.{flat_map, list_all, list_any}
use Rattle.oct_ops.specs.Games.{of_code}
use Rattle.oct_ops.specs.Operations.{contains, listed}
use Rattle.oct_pages.proofs.Building.{each_of_game}
use Rattle.oct_pages.proofs.SheetLaws.{group_held}
use Rattle.oct_pages.specs.GamesIn.{content_in}
use Rattle.oct_period.specs.GameContent.{GameContent}
use Rattle.census_judge.specs.Verdicts.{judged_op}
use Rattle.census_judge.proofs.Judging.{none_new}
use Rattle.census_judge.proofs.verdicts.judge_held.Goals as goal

pub returns-then-not-has_new : goal.returns-then-not-has_new
returns-then-not-has_new c =
    let before = c.args.before.now.ops in
    let game = content_in c.args.later.now.ops c.args.code in
    let none : list_any (λ o. not (contains before o)) (listed c.args.ops.now) ≡ false = sym c.has_new.ensures ∙ c.if-not-has_new.true in
    sym (append-nil c.args.all.now.items)
    ∙ ap (λ said. c.args.all.now.items ++ said) (sym (none_new before game (listed c.args.ops.now) none) ∙ ap (λ ops. flat_map (judged_op before game) (listed ops)) c.requires)

pub judge_ops-requires-clause-held : goal.judge_ops-requires-clause-held
judge_ops-requires-clause-held c = group_held c.args.later.now.ops c.args.code c.in_ok-game.game c.args.ops.now c.in_ok-game.ensures c.requires

pub judge_ops-requires-clause-each : goal.judge_ops-requires-clause-each
judge_ops-requires-clause-each c =
    let code = ap (λ (h : GameContent). h.code) c.in_ok-game.ensures in
    (λ i. list_all (of_code (code i)) (listed (c.requires i))) ∙ each_of_game c.args.later.now.ops c.args.code
