use Rattle.std.proofs.Common.{arith, refl, subst}
use Rattle.oct_window.specs.Places.{IsStep}
use Rattle.oct_window.proofs.Trails.{goes_rightly_with, goes_with, said_far}
use Rattle.oct_window.proofs.seeking.follow.Goals as goal

pub loop-trail-init : goal.loop-trail-init
loop-trail-init g c =
    let place = c.args.place in
    record {
      code = refl;
      listed = refl;
      placed = c.requires.placed;
      within = c.requires.within;
      on = omega arith;
      marks = refl;
      trail = goes_with place.listed place.stage c.new-trail.result c.new-trail.ensures.of;
      right = λ right. right;
      right_trail = λ right. goes_rightly_with place.stage c.new-trail.result c.new-trail.ensures.right;
      heeded = refl;
    }

pub returns-in-Over-clause-left : goal.returns-in-Over-clause-left
returns-in-Over-clause-left g c =
    let step = subst (IsStep c.args.count c.loop-trail.place) c.in-Over.is c.in_ok-heap.ensures.step in
    (step.1, omega (arith, said_far c.in-Over.last c.in-Over.sought step.2, step.0.on, c.loop-trail.invariant.on))
