use Rattle.std.proofs.Common.{subst, subst₂, sym, vec_len, IfSome, arith}
use Rattle.oct_window.specs.Comparisons.{IsCompared}
use Rattle.oct_window.specs.Repeats.{IsRepeat}
use Rattle.oct_window.specs.Trails.{IsBetween}
use Rattle.oct_window.specs.Watched.{seen_of}
use Rattle.oct_window.proofs.Trails.{repeats_later}
use Rattle.oct_window.proofs.stepping.compare_behind.Goals as goal

pub returns-in-Some-clause-seen : goal.returns-in-Some-clause-seen
returns-in-Some-clause-seen g c same repeats trail =
    let code = c.args.code in
    let told = c.narrow-start.ensures in
    let seen = seen_of c.args.watch.now in
    let k = c.in-Some.comparison in
    let start = c.narrow-start.result.start in
    let here : IsRepeat c.args.watch.now.window.code seen = subst (λ d. IsRepeat d seen) (sym same) repeats in
    let listed = vec_len c.args.row.now.values in
    let between : IsBetween listed seen k = subst (λ o. IfSome o (IsBetween listed seen)) c.in-Some.is told.between in
    let compared : IsCompared c.args.watch.now.window.code k = subst (λ o. IfSome o (IsCompared c.args.watch.now.window.code)) c.in-Some.is (told.compared here trail) in
    let held : IsRepeat code (record { start = start; period = k.period }) =
    subst₂ (λ d p. IsRepeat d (record { start = start; period = p })) same (sym between.period) (told.holds here trail) in
    record {
      repeats = repeats_later code k.period start c.max.result (omega (arith, c.max.ensures)) held;
      compared = subst (λ d. IsCompared d k) same compared;
    }
