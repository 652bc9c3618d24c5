use Rattle.std.proofs.Common.{◌∙◌, map, subst, sym, arith}
use Rattle.std.proofs.lemmas.Bool.{ltb-true}
use Rattle.oct_mex.specs.Periods.{ComesAgain}
use Rattle.oct_search.proofs.Certificates.{goes_on_if_shown}
use Rattle.oct_search.proofs.certificate.look_ahead.Goals as goal
use Rattle.oct_search.proofs.certificate.look_ahead.Goals.{then-spared-eq0, else-spared-eq0+then-seen-spared, else-spared-eq0+else-seen-spared}

pub returns-then-goes_on : goal.returns-then-goes_on
returns-then-goes_on g c =
    let row = c.args.row.now in
    let seen = c.in-Some.seen in
    let number = g.T.Cell.number in
    let again : ComesAgain (map number row.values.items) seen.start seen.period = subst (λ xs. ComesAgain (map number xs) seen.start seen.period) c.deref.ensures.value c.in-Some.ensures.again in
    record {
      some = c.in-Some.ensures.some;
      within = omega (arith, c.in-Some.ensures.within, c.deref.ensures.len);
      on = elim c.if-spared-eq0.branch [
        | then-spared-eq0 w ↦ goes_on_if_shown number c.args.code.now row seen.start seen.period c.requires.row c.in-Some.ensures.first (omega (arith, w.if-spared-eq0.true, c.saturating_sub-spared.ensures, c.need_of.ensures, c.len-2.ensures)) again
        | else-spared-eq0+then-seen-spared w ↦ w.goes_on.ensures.goes_on (sym w.value-is ∙ c.if-goes_on.true)
        | else-spared-eq0+else-seen-spared w ↦ absurd (omega (arith, w.if-seen-spared.false, ltb-true seen.period c.saturating_sub-spared.result (sym w.value-is ∙ c.if-goes_on.true)))
      ];
    }
