use Rattle.std.proofs.Common.{length, ◌≡◌, ◌+◌, ◌-◌, ◌<◌, ◌≤◌, ◌∙◌, ap, arith, subst, subst₂, sym, vec_len}
use Rattle.oct_code.specs.Code.{len}
use Rattle.oct_mex.specs.Periods.{IsPeriodicWithin}
use Rattle.oct_mex.specs.Windows.{window as width}
use Rattle.oct_mex.specs.declared.period.SeenPeriod.{SeenPeriod}
use Rattle.oct_window.specs.Comparisons.{IsRight}
use Rattle.oct_window.specs.Trails.{IsPassed, IsRightlyPassed}
use Rattle.oct_window.specs.Windows.{IsKnown, IsSameGame}
use Rattle.oct_window.specs.declared.reader.Reader.{Reader}
use Rattle.oct_window.proofs.Trails.{known_of, no_further, repeats_behind}
use Rattle.oct_window.proofs.trail.Trail.later.Goals as goal

pub returns-in-Some-clause-later : goal.returns-in-Some-clause-later
returns-in-Some-clause-later g c =
    let now = c.args.watch.now.window in
    let code = now.code in
    let listed = vec_len c.args.row.now.values in
    let windows = c.args.self.now.windows.items in
    let v = c.index-window.result.now in
    let w = c.index-nearest.result.now in
    let period = c.seen-seen.result.period in
    let held : c.args.index < length windows = omega (arith, c.requires.held) in
    let held_last : c.last_before.result < length windows = omega (arith, c.last_before.ensures.held) in
    let near : IsPassed listed now v = subst (IsPassed listed now) (sym c.index-window.ensures) (c.requires.of c.args.index v held) in
    let far : IsPassed listed now w = subst (IsPassed listed now) (sym c.index-nearest.ensures) (c.requires.of c.last_before.result w held_last) in
    let end = v.count + period in
    let before : w.count ≤ end = no_further windows c.args.index c.last_before.result end v w c.index-window.ensures held (omega arith) c.last_before.ensures.before c.index-nearest.ensures in
    let first = c.behind.result in
    let second = c.go_to.new.self in
    let here : first.heap ≡ v.count = c.behind.ensures.heap ∙ c.in-Ok.ensures.count in
    let heap : second.heap ≡ end = omega (arith, c.go_to.ensures.heap c.if-not-go_to.false, c.behind-second.ensures.heap, c.in-Ok-copy.ensures.count, before) in
    let told = c.in-Some.ensures in
    let k = c.in-Some.comparison in
    record {
      paired = told.paired listed (c.behind.ensures.step listed (omega (arith, c.in-Ok.ensures.count, near.behind))) c.go_to.ensures.step;
      period = told.period ∙ ap (λ (s : SeenPeriod). s.period) c.seen-seen.ensures;
      ahead = ap (λ (r : Reader g.row.A.Denot). r.heap) told.second ∙ omega (arith, heap, here, ap (λ (r : Reader g.row.A.Denot). r.heap) told.first, told.period, ap (λ (s : SeenPeriod). s.period) c.seen-seen.ensures);
      below = omega (arith, ap (λ (r : Reader g.row.A.Denot). r.heap) told.first, here, c.if-window-seen.false, ap (λ (s : SeenPeriod). s.start) c.seen-seen.ensures);
    }

pub returns-in-Some-clause-right : goal.returns-in-Some-clause-right
returns-in-Some-clause-right g c repeats trail =
    let now = c.args.watch.now.window in
    let code = now.code in
    let listed = vec_len c.args.row.now.values in
    let windows = c.args.self.now.windows.items in
    let v = c.index-window.result.now in
    let w = c.index-nearest.result.now in
    let period = c.seen-seen.result.period in
    let held : c.args.index < length windows = omega (arith, c.requires.held) in
    let held_last : c.last_before.result < length windows = omega (arith, c.last_before.ensures.held) in
    let near : IsPassed listed now v = subst (IsPassed listed now) (sym c.index-window.ensures) (c.requires.of c.args.index v held) in
    let far : IsPassed listed now w = subst (IsPassed listed now) (sym c.index-nearest.ensures) (c.requires.of c.last_before.result w held_last) in
    let end = v.count + period in
    let before : w.count ≤ end = no_further windows c.args.index c.last_before.result end v w c.index-window.ensures held (omega arith) c.last_before.ensures.before c.index-nearest.ensures in
    let first = c.behind.result in
    let second = c.go_to.new.self in
    let here : first.heap ≡ v.count = c.behind.ensures.heap ∙ c.in-Ok.ensures.count in
    let heap : second.heap ≡ end = omega (arith, c.go_to.ensures.heap c.if-not-go_to.false, c.behind-second.ensures.heap, c.in-Ok-copy.ensures.count, before) in
    let right_near : IsRightlyPassed now v = subst (IsRightlyPassed now) (sym c.index-window.ensures) (trail c.args.index v held) in
    let right_far : IsRightlyPassed now w = subst (IsRightlyPassed now) (sym c.index-nearest.ensures) (trail c.last_before.result w held_last) in
    let right : IsRight code first = record {
      known = subst IsKnown (sym c.behind.ensures.window) (c.in-Ok.ensures.known right_near.known);
      code = ap (λ u. u.code) c.behind.ensures.window ∙ c.in-Ok.ensures.same.code ∙ near.same.code;
    } in
    let later : IsRight code second = c.go_to.ensures.right code (record {
      known = subst IsKnown (sym c.behind-second.ensures.window) (c.in-Ok-copy.ensures.known right_far.known);
      code = ap (λ u. u.code) c.behind-second.ensures.window ∙ c.in-Ok-copy.ensures.same.code ∙ far.same.code;
    }) in
    let count : first.window.count ≡ first.heap = ap (λ u. u.count) c.behind.ensures.window ∙ sym c.behind.ensures.heap in
    let count_later : second.window.count ≡ first.heap + c.seen-seen.result.period = omega (arith, c.go_to.ensures.step.count, far.behind, before, heap, here, ap (λ (s : SeenPeriod). s.period) c.seen-seen.ensures) in
    c.in-Some.ensures.compared code right later count count_later

pub returns-in-None-clause-right : goal.returns-in-None-clause-right
returns-in-None-clause-right g c repeats trail =
    let now = c.args.watch.now.window in
    let code = now.code in
    let listed = vec_len c.args.row.now.values in
    let windows = c.args.self.now.windows.items in
    let v = c.index-window.result.now in
    let w = c.index-nearest.result.now in
    let period = c.seen-seen.result.period in
    let held : c.args.index < length windows = omega (arith, c.requires.held) in
    let held_last : c.last_before.result < length windows = omega (arith, c.last_before.ensures.held) in
    let near : IsPassed listed now v = subst (IsPassed listed now) (sym c.index-window.ensures) (c.requires.of c.args.index v held) in
    let far : IsPassed listed now w = subst (IsPassed listed now) (sym c.index-nearest.ensures) (c.requires.of c.last_before.result w held_last) in
    let end = v.count + period in
    let before : w.count ≤ end = no_further windows c.args.index c.last_before.result end v w c.index-window.ensures held (omega arith) c.last_before.ensures.before c.index-nearest.ensures in
    let first = c.behind.result in
    let second = c.go_to.new.self in
    let here : first.heap ≡ v.count = c.behind.ensures.heap ∙ c.in-Ok.ensures.count in
    let heap : second.heap ≡ end = omega (arith, c.go_to.ensures.heap c.if-not-go_to.false, c.behind-second.ensures.heap, c.in-Ok-copy.ensures.count, before) in
    let right_near : IsRightlyPassed now v = subst (IsRightlyPassed now) (sym c.index-window.ensures) (trail c.args.index v held) in
    let right_far : IsRightlyPassed now w = subst (IsRightlyPassed now) (sym c.index-nearest.ensures) (trail c.last_before.result w held_last) in
    let right : IsRight code first = record {
      known = subst IsKnown (sym c.behind.ensures.window) (c.in-Ok.ensures.known right_near.known);
      code = ap (λ u. u.code) c.behind.ensures.window ∙ c.in-Ok.ensures.same.code ∙ near.same.code;
    } in
    let later : IsRight code second = c.go_to.ensures.right code (record {
      known = subst IsKnown (sym c.behind-second.ensures.window) (c.in-Ok-copy.ensures.known right_far.known);
      code = ap (λ u. u.code) c.behind-second.ensures.window ∙ c.in-Ok-copy.ensures.same.code ∙ far.same.code;
    }) in
    let count : first.window.count ≡ first.heap = ap (λ u. u.count) c.behind.ensures.window ∙ sym c.behind.ensures.heap in
    let count_later : second.window.count ≡ first.heap + c.seen-seen.result.period = omega (arith, c.go_to.ensures.step.count, far.behind, before, heap, here, ap (λ (s : SeenPeriod). s.period) c.seen-seen.ensures) in
    let same : IsSameGame now second.window = record {
      code = later.code;
      mask = c.go_to.ensures.same.mask ∙ ap (λ u. u.rare.mask) c.behind-second.ensures.window ∙ c.in-Ok-copy.ensures.same.mask ∙ far.same.mask;
      reach = c.go_to.ensures.same.reach ∙ ap (λ u. u.reach) c.behind-second.ensures.window ∙ c.in-Ok-copy.ensures.same.reach ∙ far.same.reach;
    } in
    let reach : first.window.reach ≡ now.reach = ap (λ u. u.reach) c.behind.ensures.window ∙ c.in-Ok.ensures.same.reach ∙ near.same.reach in
    let known = known_of now second.window same later.known in
    let again : IsPeriodicWithin code (first.heap - width code first.window.reach) c.seen-seen.result.period first.heap = c.in-None.ensures.compared code right later count count_later in
    let span = now.count - c.args.watch.now.at in
    let spans : c.seen-seen.result.period ≡ span = ap (λ (s : SeenPeriod). s.period) c.seen-seen.ensures in
    let early : v.count ≤ c.seen-seen.result.start = omega (arith, c.if-window-seen.false) in
    let start : c.seen-seen.result.start ≡ c.args.watch.now.at - width now.code now.reach = ap (λ (s : SeenPeriod). s.start) c.seen-seen.ensures in
    let passed = c.requires.watchable.passed in
    let room : now.reach + width code now.reach < v.count = subst₂ (λ k r. r + width k r < v.count) near.same.code near.same.reach near.far in
    let digits : c.len-in-None.result ≡ len code = c.len-in-None.ensures.value ∙ ap len near.same.code in
    let from = v.count - v.reach - c.len-in-None.result in
    let starts : from ≡ v.count - width code now.reach = omega (arith, digits, near.same.reach) in
    let from_first : first.heap - width code first.window.reach ≡ from = omega (arith, digits, near.same.reach, reach, here) in
    let again_here : IsPeriodicWithin code from span v.count =
    subst (λ h. IsPeriodicWithin code from span h) here (subst₂ (λ f p. IsPeriodicWithin code f p first.heap) from_first spans again) in
    repeats_behind code now.rare.mask now.reach v.count span (c.args.watch.now.at - width now.code now.reach) from repeats starts room c.requires.watchable.shaped.near known.0
    (λ h high low. known.1 h high (omega (arith, count_later, here, spans))) (λ n high low. right_near.settled n high (omega arith)) again_here
