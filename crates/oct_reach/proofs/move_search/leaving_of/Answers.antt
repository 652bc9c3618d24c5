use Rattle.std.proofs.Common.{Some, None, true, false, cond, ap, refl, sym, ◌∙◌}
use Rattle.std.specs.List.{find}
use Rattle.oct_code.specs.Code.{allows}
use Rattle.oct_mex.specs.Moves.{splits}
use Rattle.oct_period.specs.Moving.{has_value}
use Rattle.oct_period.proofs.Leavings.{leaving_by, not_both}
use Rattle.oct_reach.proofs.move_search.leaving_of.Goals as goal

pub returns-then-is_one : goal.returns-then-is_one
returns-then-is_one g c =
    let a = c.args in
    sym (leaving_by (has_value a.game.now.code a.wanted) a.game.now.code c.code-code.result a.removed a.rest true true (allows c.code-code.result a.removed 2) c.code-code.ensures
    (sym c.if-may_leave_one.true ∙ c.leaves_at_most_one-may_leave_one.ensures) (sym c.if-is_one.true ∙ c.has_value-is_one.ensures) refl)

pub returns-then-allows : goal.returns-then-allows
returns-then-allows g c =
    let a = c.args in
    let test = has_value a.game.now.code a.wanted in
    let may = c.leaves_at_most_one-may_leave_one.result in
    let is = c.has_value-is_one.result in
    c.split_of.ensures
    ∙ sym (leaving_by test a.game.now.code c.code-code.result a.removed a.rest may is true c.code-code.ensures
    c.leaves_at_most_one-may_leave_one.ensures c.has_value-is_one.ensures (sym c.if-allows.true ∙ c.allows.ensures)
    ∙ ap (λ b. cond b (Some (0, a.rest)) (find test (splits a.rest))) (not_both may is c.else-may_leave_one.either))

pub returns : goal.returns
returns g c =
    let a = c.args in
    let test = has_value a.game.now.code a.wanted in
    let may = c.leaves_at_most_one-may_leave_one.result in
    let is = c.has_value-is_one.result in
    sym (leaving_by test a.game.now.code c.code-code.result a.removed a.rest may is false c.code-code.ensures
    c.leaves_at_most_one-may_leave_one.ensures c.has_value-is_one.ensures (sym c.if-allows.false ∙ c.allows.ensures)
    ∙ ap (λ b. cond b (Some (0, a.rest)) None) (not_both may is c.else-may_leave_one.either))
