use Rattle.std.proofs.Common.{◌≡◌, ◌++◌, [], true, false, not, sym, ap, ◌∙◌, append-nil}
use Rattle.std.specs.List.{flat_map, list_all, list_any}
use Rattle.std.proofs.lemmas.Result.{on_ok_weaker}
use Rattle.oct_ops.specs.Games.{of_code}
use Rattle.oct_ops.specs.Operations.{contains, listed}
use Rattle.oct_pages.proofs.Building.{each_of_game}
use Rattle.oct_pages.proofs.SheetLaws.{group_held}
use Rattle.oct_pages.specs.GamesIn.{content_in}
use Rattle.oct_period.specs.GameContent.{GameContent}
use Rattle.census_judge.specs.Decisions.{decided_in, decided_op, was_pending}
use Rattle.census_judge.proofs.Deciding.{none_decided, none_pending, some_decided}
use Rattle.census_judge.proofs.decisions.decide_held.Goals as goal

pub returns-then-not-has_new : goal.returns-then-not-has_new
returns-then-not-has_new c =
    let before = c.args.before.now.ops in
    let none : list_any (λ o. not (contains before o)) (listed c.args.ops.now) ≡ false = sym c.has_new.ensures ∙ c.if-not-has_new.true in
    sym (append-nil c.args.all.now.items)
    ∙ ap (λ said. c.args.all.now.items ++ said) (sym (none_decided before c.args.later.now.ops c.args.code c.args.ops.now c.requires none))

pub had_pending-requires : goal.had_pending-requires
had_pending-requires c =
    let code = ap (λ (h : GameContent). h.code) c.in_ok-old.ensures in
    (λ i. list_all (of_code (code i)) (listed (c.requires i))) ∙ each_of_game c.args.later.now.ops c.args.code

pub returns-then-not-had_pending : goal.returns-then-not-had_pending
returns-then-not-had_pending c =
    let before = c.args.before.now.ops in
    let later = c.args.later.now.ops in
    let code = c.args.code in
    let ops = c.args.ops.now in
    let old = c.in_ok-old.old in
    let game = content_in later code in
    let some : list_any (λ o. not (contains before o)) (listed ops) ≡ true = sym c.has_new.ensures ∙ c.if-not-has_new.false in
    let none : list_any (was_pending before old) (listed ops) ≡ false = sym c.had_pending.ensures ∙ c.if-not-had_pending.true in
    let nothing : decided_in before later code ≡ [] =
    some_decided before later code ops c.requires some
    ∙ ap (λ g. flat_map (decided_op before g game) (listed ops)) (sym c.in_ok-old.ensures)
    ∙ none_pending before old game (listed ops) none in
    sym (append-nil c.args.all.now.items) ∙ ap (λ said. c.args.all.now.items ++ said) (sym nothing)

pub decide_ops-requires-clause-held : goal.decide_ops-requires-clause-held
decide_ops-requires-clause-held c = group_held c.args.later.now.ops c.args.code c.in_ok-game.game c.args.ops.now c.in_ok-game.ensures c.requires

pub decide_ops-requires-clause-each : goal.decide_ops-requires-clause-each
decide_ops-requires-clause-each c =
    let code = ap (λ (h : GameContent). h.code) c.in_ok-game.ensures in
    (λ i. list_all (of_code (code i)) (listed (c.requires i))) ∙ each_of_game c.args.later.now.ops c.args.code

pub returns : goal.returns
returns c =
    let before = c.args.before.now.ops in
    let later = c.args.later.now.ops in
    let code = c.args.code in
    let ops = c.args.ops.now in
    let some : list_any (λ o. not (contains before o)) (listed ops) ≡ true = sym c.has_new.ensures ∙ c.if-not-has_new.false in
    let same : flat_map (decided_op before c.in_ok-old.old c.in_ok-game.game) (listed ops) ≡ decided_in before later code =
    (λ i. flat_map (decided_op before (c.in_ok-old.ensures i) (c.in_ok-game.ensures i)) (listed ops))
    ∙ sym (some_decided before later code ops c.requires some) in
    on_ok_weaker c.decide_ops.result (λ grown. grown ∙ ap (λ said. c.args.all.now.items ++ said) same) c.decide_ops.ensures
