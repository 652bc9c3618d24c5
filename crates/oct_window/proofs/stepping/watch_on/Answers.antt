use Rattle.std.proofs.Common.{◌≡◌, ◌<◌, ap, inl, inr, refl, subst, sym, vec_len, IfSome, ◌∙◌, arith}
use Rattle.std.proofs.lemmas.Bool.{cases_lt}
use Rattle.oct_window.specs.Places.{IsRightPlace, IsRightTrailAt, IsSeen, IsTrailAt}
use Rattle.oct_window.specs.Repeats.{IsRepeat}
use Rattle.oct_window.specs.Trails.{IsRightTrail}
use Rattle.oct_window.specs.Seeking.{NoneIsSeen}
use Rattle.oct_window.specs.Watched.{IsMarkAt, IsStepped, IsWatched, seen_of}
use Rattle.oct_window.specs.Windows.{reach_behind}
use Rattle.oct_window.specs.declared.watch.Watch.{Watch}
use Rattle.oct_window.proofs.Marking.{none_is_seen}
use Rattle.oct_window.proofs.Trails.{right_further, trail_further}
use Rattle.oct_window.proofs.stepping.watch_on.Goals as goal

pub returns-clause-right : goal.returns-clause-right
returns-clause-right g c right trail =
    let old = c.args.watch in
    let w = c.go_to.new.self in
    let listed = vec_len c.args.row.now.values in
    let told = c.in_ok-step.ensures in
    let watched : IsWatched w = subst (IsStepped w) c.in-On.is (told.stepped right.watched) in
    let code : w.window.code ≡ c.args.code = told.same.code ∙ right.code in
    let reach : w.window.reach ≡ reach_behind c.args.code listed = told.same.reach ∙ right.reach in
    let marked : IsMarkAt listed w.at w.window.count = told.marked listed right.marked c.in-On.is in
    let count : w.window.count ≡ c.args.count = omega (arith, told.reached c.in-On.is, c.if-end-count.false) in
    let at : w.at < c.args.count = elim (cases_lt old.window.count c.min-end.result) [
      | inl less ↦ omega (arith, told.behind c.in-On.is less)
      | inr over ↦ omega (arith, ap (λ (v : Watch g.row.A.Denot). v.at) (told.still over), c.requires.marked)
    ] in
    let none = none_is_seen c.args.code w.window.code w.window.reach listed w.at c.args.count w.window.count code reach count marked (omega arith) watched.marked.none in (
      (refl, subst (λ n. NoneIsSeen c.args.code n c.args.count) (sym c.len.ensures) none),
      subst IsRightPlace (sym c.place_of-place.ensures) (record { watched = watched; code = code; reach = reach; marked = marked }),
    )

pub returns-then-end-count-clause-right : goal.returns-then-end-count-clause-right
returns-then-end-count-clause-right g c right trail =
    let w = c.go_to.new.self in
    let listed = vec_len c.args.row.now.values in
    let told = c.in_ok-step.ensures in
    subst IsRightPlace (sym c.place_of-place.ensures) (record {
      watched = subst (IsStepped w) c.in-On.is (told.stepped right.watched);
      code = told.same.code ∙ right.code;
      reach = told.same.reach ∙ right.reach;
      marked = told.marked listed right.marked c.in-On.is;
    })

pub returns-in-Some-clause-right : goal.returns-in-Some-clause-right
returns-in-Some-clause-right g c right trail =
    let code = c.args.code in
    let w = c.go_to.new.self in
    let told = c.in_ok-step.ensures in
    let same : w.window.code ≡ code = told.same.code ∙ right.code in
    let stepped : IsRepeat w.window.code (seen_of w) = subst (IsStepped w) c.in-Again.is (told.stepped right.watched) in
    let passed : IsRightTrail w.window c.args.trail.now = right_further c.args.watch.window w.window c.args.trail.now told.same (told.passed right.watched) trail in
    let seen : IsSeen code c.in-Some.seen =
    subst (λ o. IfSome o (IsSeen code)) c.in-Some.is (c.in_ok-seen-in-Again.ensures.seen same (subst (λ k. IsRepeat k (seen_of w)) same stepped) passed) in
    subst IsRightPlace (sym c.place_of.ensures) seen

pub returns-then-end-count-clause-trail : goal.returns-then-end-count-clause-trail
returns-then-end-count-clause-trail g c =
    let w = c.go_to.new.self in
    let told = c.in_ok-step.ensures in
    subst (λ p. IsTrailAt p c.args.trail.now) (sym c.place_of-place.ensures)
    (trail_further (vec_len c.args.row.now.values) c.args.watch.window w.window c.args.trail.now told.same told.more c.requires.trail)

pub returns-then-end-count-clause-right_trail : goal.returns-then-end-count-clause-right_trail
returns-then-end-count-clause-right_trail g c right trail =
    let w = c.go_to.new.self in
    let told = c.in_ok-step.ensures in
    subst (λ p. IsRightTrailAt p c.args.trail.now) (sym c.place_of-place.ensures)
    (right_further c.args.watch.window w.window c.args.trail.now told.same (told.passed right.watched) trail)
