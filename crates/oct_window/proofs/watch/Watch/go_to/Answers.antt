use Rattle.std.proofs.Common.{rules, subst, sym, ◌≡◌, ◌+◌, ◌∙◌, arith}
use Rattle.std.proofs.lemmas.Bool.{false≢true}
use Rattle.oct_window.specs.Watched.{IsStepped}
use Rattle.oct_window.specs.declared.watch.Step.TheVariants.{On}
use Rattle.oct_window.proofs.watch.Watch.go_to.Goals.{in-On, in_default}
use Rattle.oct_window.proofs.Trails.{settled_further}
use Rattle.oct_window.proofs.Marking.{mark_goes_on}
use Rattle.oct_window.proofs.watch.Watch.go_to.Goals as goal

pub loop-self-preserved : goal.loop-self-preserved
loop-self-preserved g c =
    let old = c.loop-self.self in
    let new = c.step_by.new.self in
    let told = c.in_ok-step.ensures in
    let is = c.loop-self.invariant in
    let fits = is.watchable in
    let on : c.in_ok-step.step ≡ On = elim c.match-matches.branch [ in-On w ↦ w.in-On.is | in_default w ↦ absurd (false≢true (sym w.matches-is ∙ c.if-not-matches.fact)) ] in
    let one : new.window.count ≡ old.window.count + 1 = search rules in
    record {
      watchable = told.watchable;
      of = told.of;
      right = λ right. told.right (is.watched right) (is.right right);
      same = record { code = told.same.code ∙ is.same.code; mask = told.same.mask ∙ is.same.mask; reach = told.same.reach ∙ is.same.reach };
      most = omega (arith, one, is.most, c.loop-self-test.true);
      marks = search rules;
      watched = λ right. subst (IsStepped new) on (told.stepped (is.watched right) (is.right right));
      behind = λ more. search rules;
      marked = λ first marked. mark_goes_on first old.at new.at old.window.count new.window.count (omega (arith, fits.behind)) fits.passed fits.fresh told.mark one (is.marked first marked);
      still = λ same. absurd (omega (arith, one, same, is.least));
      least = omega (arith, one, is.least);
      passed = λ right. settled_further c.args.self.now.window.count old.window new.window told.same (is.passed right) (told.passed (is.watched right) (is.right right));
    }

pub returns-in_err-step-clause-passed : goal.returns-in_err-step-clause-passed
returns-in_err-step-clause-passed g c right =
    let is = c.loop-self.invariant in
    let told = c.step_by.ensures in
    settled_further c.args.self.now.window.count c.loop-self.self.window c.step_by.new.self.window told.same (is.passed right) (told.passed (is.watched right) (is.right right))

pub returns-then-not-matches-clause-passed : goal.returns-then-not-matches-clause-passed
returns-then-not-matches-clause-passed g c right =
    let is = c.loop-self.invariant in
    let told = c.step_by.ensures in
    settled_further c.args.self.now.window.count c.loop-self.self.window c.step_by.new.self.window told.same (is.passed right) (told.passed (is.watched right) (is.right right))

pub returns-clause-marked : goal.returns-clause-marked
returns-clause-marked g c first marked on = c.loop-self.invariant.marked first marked

pub returns-clause-passed : goal.returns-clause-passed
returns-clause-passed g c right = c.loop-self.invariant.passed right
