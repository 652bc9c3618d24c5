use Rattle.std.proofs.Common.{refl, subst, subst₂, sym, arith}
use Rattle.oct_mex.specs.Periods.{IsPeriodicWithin}
use Rattle.oct_window.specs.Places.{IsRightPlace, IsSeen}
use Rattle.oct_window.specs.Repeats.{IsLeastPeriod, IsRepeat}
use Rattle.oct_window.proofs.stepping.compare_on.Goals as goal

pub returns-then-heap-seen-clause-right : goal.returns-then-heap-seen-clause-right
returns-then-heap-seen-clause-right g c right =
    let code = c.args.code in
    let told = c.if-not-go_on.ensures in
    let seen : IsSeen code c.go_on.new.self = record {
      repeats = subst₂ (λ s p. IsRepeat code (record { start = s; period = p })) (sym told.start) (sym told.period) right.repeats;
      compared = told.compared code c.requires.row right.compared;
    } in
    subst IsRightPlace (sym c.place_of.ensures) seen

pub returns-clause-right : goal.returns-clause-right
returns-clause-right g c right =
    let code = c.args.code in
    let told = c.if-not-go_on.ensures in
    let s = c.go_on.new.self in
    let k = s.comparison in
    let seen : IsSeen code s = record {
      repeats = subst₂ (λ s p. IsRepeat code (record { start = s; period = p })) (sym told.start) (sym told.period) right.repeats;
      compared = told.compared code c.requires.row right.compared;
    } in
    let fits = told.comparing refl in
    let over = c.if-heap-seen.false in
    let heap = c.heap.ensures in
    let start = c.start.ensures in
    let again : IsPeriodicWithin code k.start k.period s.start = λ n high low. seen.compared.again n high (omega arith) in
    let least = c.least_starts_are_least.ensures code (record { start = s.start; period = k.period }) k.start seen.repeats fits.paired.some again seen.compared.earliest in (
      record {
        least = subst (λ n. IsLeastPeriod code (record { start = n; period = k.period })) (sym start) least;
        within = omega (arith, fits.paired.within, fits.below, fits.within, seen.repeats.first);
        few = omega (arith, told.values, c.requires.within);
      },
      subst IsRightPlace (sym c.place_of-2.ensures) seen,
    )
