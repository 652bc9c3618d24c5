use Rattle.std.proofs.Common.{◌≡◌, ◌+◌, ◌-◌, ◌<◌, ◌≤◌, length, map, subst, sym, arith}
use Rattle.oct_mex.proofs.Cells.{as_many}
use Rattle.oct_mex.specs.Periods.{ComesAgain}
use Rattle.oct_mex.proofs.SeenPeriods.{none_returns-next}
use Rattle.oct_mex.proofs.period.least_return.Goals as goal
use Rattle.oct_mex.proofs.period.least_return.Goals.{then-not-differs+in-Some, else-not-differs}

pub loop-period-preserved : goal.loop-period-preserved
loop-period-preserved g c =
    let all = map g.T.Cell.number c.args.values.now in
    let from = c.args.from in
    let inv = c.loop-period.invariant in
    let next = c.next_return-period-in-loop-period in
    let size : length all ≡ length c.args.values.now = as_many g.T.Cell.number c.args.values.now in
    let place = c.seldom_place-place.ensures in
    let here : ComesAgain all (from - c.loop-period.period) c.loop-period.period → ⊥ = elim c.if-not-differs.branch [
      | then-not-differs+in-Some w ↦ λ again. w.in-Some.ensures.breaks (again w.in-Some.heap w.in-Some.ensures.behind w.in-Some.ensures.within)
      | else-not-differs w ↦ λ again. c.differs.ensures.0 w.if-not-differs.false (again (c.loop-period.later - c.loop-period.period) (omega (arith, inv.behind)) (omega (arith, size, inv.held, inv.behind, inv.within)))
    ] in
    let later = elim c.if-not-differs.branch as (λ x. (from ≤ c.if-not-differs.later) × (c.if-not-differs.later < length c.args.values.now)) [
      | then-not-differs+in-Some w ↦ (omega (arith, w.later-is, w.in-Some.ensures.behind, inv.within), omega (arith, size, w.later-is, w.in-Some.ensures.within))
      | else-not-differs w ↦ (omega (arith, w.later-is, inv.behind), omega (arith, w.later-is, inv.held))
    ] in
    record {
      some = omega (arith, next.ensures.behind);
      within = next.ensures.within;
      behind = later.0;
      held = later.1;
      none = none_returns-next all from c.seldom_place-place.result c.loop-period.period next.result place.behind (omega (arith, size, place.within)) next.ensures.within inv.none here next.ensures.none;
    }
