use Rattle.std.proofs.Common.{subst, sym}
use Rattle.oct_window.specs.Places.{IsRightStagedTrail, IsStaged, IsStagedTrail, IsStageOf, IsWatchedIn, IsWatching}
use Rattle.oct_window.specs.Trails.{IsRightTrail, IsTrailOf}
use Rattle.oct_window.proofs.Trails.{still_in}
use Rattle.oct_window.proofs.place.Place.step.Goals as goal

pub watch_on-requires-clause-trail : goal.watch_on-requires-clause-trail
watch_on-requires-clause-trail g c =
    let listed = c.args.self.listed in
    let watch = c.in-Watching.watch in
    let staged : IsWatching listed watch = subst (IsStaged listed) c.in-Watching.is c.requires.placed.staged in
    let trail : IsTrailOf listed watch.window c.args.trail.now = subst (λ s. IsStagedTrail listed s c.args.trail.now) c.in-Watching.is c.requires.trail in
    subst (λ n. IsTrailOf n c.leave.new.self.window c.leave.new.trail) (sym c.requires.listed) (c.leave.ensures.of listed staged.behind trail)

pub returns-in-Watching-clause-right : goal.returns-in-Watching-clause-right
returns-in-Watching-clause-right g c right trail =
    let code = c.args.self.code in
    let listed = c.args.self.listed in
    let watch = c.in-Watching.watch in
    let in_game : IsWatchedIn code listed watch = subst (IsStageOf code listed) c.in-Watching.is right in
    let passed : IsRightTrail watch.window c.args.trail.now = subst (λ s. IsRightStagedTrail s c.args.trail.now) c.in-Watching.is trail in
    c.watch_on.ensures.right (subst (λ n. IsWatchedIn code n c.leave.new.self) (sym c.requires.listed)
    (still_in code listed watch c.leave.new.self c.leave.ensures.same c.leave.ensures.count c.leave.ensures.mark (c.leave.ensures.watched in_game.watched) in_game))
    (c.leave.ensures.right in_game.watched passed)

pub returns-in-Watching-clause-right_trail : goal.returns-in-Watching-clause-right_trail
returns-in-Watching-clause-right_trail g c right trail =
    let code = c.args.self.code in
    let listed = c.args.self.listed in
    let watch = c.in-Watching.watch in
    let in_game : IsWatchedIn code listed watch = subst (IsStageOf code listed) c.in-Watching.is right in
    let passed : IsRightTrail watch.window c.args.trail.now = subst (λ s. IsRightStagedTrail s c.args.trail.now) c.in-Watching.is trail in
    c.watch_on.ensures.right_trail (subst (λ n. IsWatchedIn code n c.leave.new.self) (sym c.requires.listed)
    (still_in code listed watch c.leave.new.self c.leave.ensures.same c.leave.ensures.count c.leave.ensures.mark (c.leave.ensures.watched in_game.watched) in_game))
    (c.leave.ensures.right in_game.watched passed)
