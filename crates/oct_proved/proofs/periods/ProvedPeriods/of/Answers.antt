use Rattle.std.proofs.Common.{◌≡◌, Some, true, false, sym, ap, ◌∙◌, subst}
use Rattle.oct_code.specs.Code.{code_eq}
use Rattle.oct_window.specs.Repeats.{IsLeastPeriod}
use Rattle.oct_proved.specs.Periods.{AreProved, period_in}
use Rattle.oct_proved.proofs.Found.{first_found, its_least, none_more}
use Rattle.oct_proved.proofs.periods.ProvedPeriods.of.Goals as goal

pub loop-proved-preserved : goal.loop-proved-preserved
loop-proved-preserved g c =
    let code = c.args.code in
    let other : code_eq c.proved-item.result.code code ≡ false = sym c.eq.ensures ∙ c.if-eq.false in
    none_more c.deref-proved-items.result.now code c.loop-proved.proved-index c.proved-item.result c.loop-proved-test.true c.loop-proved.invariant
    (sym (ap (λ p. code_eq p.code code) c.proved-item.is) ∙ other)

pub returns-then-eq-clause-value : goal.returns-then-eq-clause-value
returns-then-eq-clause-value g c =
    let code = c.args.code in
    let periods = c.deref-proved-items.result.now in
    let same : code_eq c.proved-item.result.code code ≡ true = sym c.eq.ensures ∙ c.if-eq.true in
    let found = first_found periods code c.loop-proved.proved-index c.proved-item.result c.loop-proved-test.true c.loop-proved.invariant
    (sym (ap (λ p. code_eq p.code code) c.proved-item.is) ∙ same) in
    ap (λ p. Some p.seen) c.proved-item.is ∙ sym found ∙ ap (λ ps. period_in ps code) (c.deref-proved-items.ensures.value ∙ c.self.view_is)

pub returns-then-eq-clause-proved : goal.returns-then-eq-clause-proved
returns-then-eq-clause-proved g c =
    let code = c.args.code in
    let periods = c.deref-proved-items.result.now in
    let same : code_eq c.proved-item.result.code code ≡ true = sym c.eq.ensures ∙ c.if-eq.true in
    let least = its_least periods code c.loop-proved.proved-index c.proved-item.result c.loop-proved-test.true (subst AreProved (sym c.deref-proved-items.ensures.value) c.self.invariant)
    (sym (ap (λ p. code_eq p.code code) c.proved-item.is) ∙ same) in
    subst (λ p. IsLeastPeriod code p.seen) (sym c.proved-item.is) least
