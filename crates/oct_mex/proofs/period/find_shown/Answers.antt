use Rattle.std.proofs.Common.{◌≡◌, ◌-◌, ◌/◌, ap, arith, length, map, subst, sym, ◌∙◌}
use Rattle.oct_mex.specs.NimValues.{nim_values}
use Rattle.oct_mex.specs.Periods.{IsShown, NoneIsShownBefore}
use Rattle.oct_mex.proofs.Cells.{as_many}
use Rattle.oct_mex.proofs.SeenPeriods.{not_shown_before, not_shown_if, shown_holds}
use Rattle.oct_mex.proofs.period.find_shown.Goals as goal

pub returns-in_default-clause-least : goal.returns-in_default-clause-least
returns-in_default-clause-least g c = λ start period low shown.
    let values = c.args.values.now in
    let all = map g.T.Cell.number values in
    let size : length all ≡ length values = as_many g.T.Cell.number values in
    let from = c.saturating_sub-from.result / 2 in
    let digits = c.len.ensures.value in
    let half = c.saturating_sub-from.ensures in
    not_shown_if c.args.code.now all from from start period (c.requires.values ∙ ap (nim_values c.args.code.now) (sym size)) (omega (arith, size, digits, half)) c.in_default.ensures.least
    (omega (arith, digits, half, shown.first, shown.enough))
    (subst (λ n. IsShown c.args.code.now n start period) (sym size) shown)

pub returns-clause-holds : goal.returns-clause-holds
returns-clause-holds g c =
    let values = c.args.values.now in
    let all = map g.T.Cell.number values in
    let size : length all ≡ length values = as_many g.T.Cell.number values in
    let digits = c.len.ensures.value in
    let half = c.saturating_sub-from.ensures in
    let found = c.in-Some.ensures in
    let start = c.first_start-start.ensures in
    shown_holds c.args.code.now all c.first_start-start.result c.in-Some.period (c.requires.values ∙ ap (nim_values c.args.code.now) (sym size)) start.some
    (omega (arith, size, digits, half, found.less, start.within)) start.again

pub returns-clause-shown : goal.returns-clause-shown
returns-clause-shown g c =
    let digits = c.len.ensures.value in
    let half = c.saturating_sub-from.ensures in
    let found = c.in-Some.ensures in
    let start = c.first_start-start.ensures in
    record {
      first = start.some;
      some = found.some;
      enough = omega (arith, digits, half, found.less, start.within);
      seen = λ n low near. returns-clause-holds g c n low;
    }

pub returns-clause-earliest : goal.returns-clause-earliest
returns-clause-earliest g c =
    let values = c.args.values.now in
    let all = map g.T.Cell.number values in
    let size : length all ≡ length values = as_many g.T.Cell.number values in
    let digits = c.len.ensures.value in
    let half = c.saturating_sub-from.ensures in
    let found = c.in-Some.ensures in
    let start = c.first_start-start.ensures in
    subst (λ n. NoneIsShownBefore c.args.code.now n c.first_start-start.result c.in-Some.period) size
    (not_shown_before c.args.code.now all c.first_start-start.result c.in-Some.period (c.requires.values ∙ ap (nim_values c.args.code.now) (sym size))
    (omega (arith, size, digits, half, found.less, start.within)) start.first)

pub returns-clause-least : goal.returns-clause-least
returns-clause-least g c = λ start period low shown.
    let values = c.args.values.now in
    let all = map g.T.Cell.number values in
    let size : length all ≡ length values = as_many g.T.Cell.number values in
    let from = c.saturating_sub-from.result / 2 in
    let digits = c.len.ensures.value in
    let half = c.saturating_sub-from.ensures in
    not_shown_if c.args.code.now all from c.in-Some.period start period (c.requires.values ∙ ap (nim_values c.args.code.now) (sym size)) (omega (arith, size, digits, half)) c.in-Some.ensures.least
    low (subst (λ n. IsShown c.args.code.now n start period) (sym size) shown)
