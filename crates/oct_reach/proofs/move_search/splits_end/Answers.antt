use Rattle.std.proofs.Common.{subst, sym}
use Rattle.oct_period.specs.Moving.{AreNear}
use Rattle.oct_period.proofs.NearSplits.{all_near, period_near}
use Rattle.oct_search.specs.Found.{IsFound, IsLeastShown}
use Rattle.oct_reach.proofs.move_search.splits_end.Goals as goal

pub returns-in-Some-clause-near : goal.returns-in-Some-clause-near
returns-in-Some-clause-near g c =
    let code = c.args.game.now.code in
    let values = c.args.game.now.len in
    let seen = c.in-Some.seen in
    let found : IsLeastShown code values seen = subst (IsFound code values) c.in-Some.is c.requires in
    subst (AreNear code c.args.rest) (sym c.min.ensures) (period_near code seen.start seen.period c.args.rest found.holds found.shown.first found.shown.some)

pub returns-in-None-clause-near : goal.returns-in-None-clause-near
returns-in-None-clause-near g c = all_near c.args.game.now.code c.args.rest
