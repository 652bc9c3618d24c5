use Rattle.std.proofs.Common.{[], ◌∷◌, ◌++◌, cond, not, refl, sym, ap, ◌∙◌}
use Rattle.std.proofs.lemmas.List.{drop_all}
use Rattle.census_issue.proofs.Numbers.{all_numbers, next_number, no_number, none_yet}
use Rattle.census_issue.proofs.json_block.whole_numbers.Goals as goal

pub loop-item-init : goal.loop-item-init
loop-item-init c = none_yet c.new-numbers.result.items _ c.new-numbers.ensures.items

pub loop-item-preserved : goal.loop-item-preserved
loop-item-preserved c =
    next_number c.args.items.now c.loop-item.item-index c.item-item.result c.item-item.result c.loop-item.numbers.items c.push.new.self.items _ c.loop-item-test.true c.item-item.is (sym c.whole_number.ensures ∙ c.in-Some.is)
    (c.push.ensures.items ∙ ap (λ done. cond done (c.loop-item.numbers.items ++ c.in-Some.number ∷ []) c.loop-item.numbers.items) (c.is_err.ensures.negation ∙ ap not c.if-is_err.false)) c.loop-item.invariant

pub returns-clause-ok : goal.returns-clause-ok
returns-clause-ok c = all_numbers c.args.items.now c.loop-item.item-index c.loop-item.numbers.items (drop_all c.loop-item.item-index c.args.items.now c.loop-item-test.false) c.loop-item.invariant

pub returns-in_default-clause-err : goal.returns-in_default-clause-err
returns-in_default-clause-err c = λ other. (refl, no_number c.args.items.now c.loop-item.item-index c.item-item.result c.item-item.result c.loop-item.numbers.items c.loop-item-test.true c.item-item.is (sym c.whole_number.ensures ∙ c.in_default.is) c.loop-item.invariant)
