use Rattle.std.proofs.Common.{◌-◌, ◌+◌, length, ap₂, ◌∙◌, arith}
use Rattle.oct_period.specs.Periods.{first_break}
use Rattle.oct_period.proofs.FirstBreaks.{slices_agree, slices_differ}
use Rattle.oct_period.proofs.breaks.first_break.Goals as goal

pub returns-in_err-index : goal.returns-in_err-index
returns-in_err-index c =
    c.from_residual.ensures
    ∙ slices_agree c.args.period.now.code c.args.values.now c.start-start.result c.period.result c.requires.values (omega arith) c.in_err-index.ensures
    ∙ ap₂ (λ s p. first_break c.args.period.now.code p (length c.args.values.now - (s + p)) s) c.start-start.ensures.value c.period.ensures.value

pub returns : goal.returns
returns c =
    let differ = c.in_ok-index.ensures in
    slices_differ c.args.period.now.code c.args.values.now c.start-start.result c.period.result c.requires.values (omega arith) c.in_ok-index.index differ.within differ.differs differ.before
    ∙ ap₂ (λ s p. first_break c.args.period.now.code p (length c.args.values.now - (s + p)) s) c.start-start.ensures.value c.period.ensures.value
