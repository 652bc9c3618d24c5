use Rattle.std.proofs.Common.{◌≡◌, length, subst, sym, ◌∙◌, arith}
use Rattle.oct_mex.specs.Periods.{NoneIsShown}
use Rattle.oct_window.proofs.seeking.try_behind.Goals as goal

pub returns-in-Some-clause-tried : goal.returns-in-Some-clause-tried
returns-in-Some-clause-tried g c =
    let told = c.in-Some.ensures in
    record {
      least = c.shown_periods_are_least.ensures c.args.code.now (length c.deref.result.now) c.in-Some.seen told.shown told.earliest told.least told.holds;
      within = omega (arith, told.shown.enough, c.deref.ensures.len, c.len-listed.ensures);
      few = omega (arith, c.len-listed.ensures);
    }

pub returns-then-listed-count-clause-tried : goal.returns-then-listed-count-clause-tried
returns-then-listed-count-clause-tried g c =
    let same : length c.deref.result.now ≡ c.len-listed.result = c.deref.ensures.len ∙ sym c.len-listed.ensures in
    let none : NoneIsShown c.args.code.now (length c.deref.result.now) (length c.deref.result.now) = c.in_default.ensures.least in
    (omega (arith, c.len-listed.ensures), subst (λ n. NoneIsShown c.args.code.now n n) same none)
