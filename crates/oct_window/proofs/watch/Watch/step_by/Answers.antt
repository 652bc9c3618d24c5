use Rattle.std.proofs.Common.{sym, subst, IfSome}
use Rattle.oct_window.specs.BySets.{AreRight}
use Rattle.oct_window.specs.Trails.{AreSettled}
use Rattle.oct_window.proofs.watch.Watch.step_by.Goals as goal

pub returns-clause-passed : goal.returns-clause-passed
returns-clause-passed g c watched right =
    let same = c.mark_if_due.ensures.window in
    subst (λ w. AreSettled w.count c.push_next.new.self.window) same
    (c.push_next.ensures.passed (c.mark_if_due.ensures.watched watched) (subst (λ w. IfSome c.args.sets.now (AreRight w)) (sym same) right))
