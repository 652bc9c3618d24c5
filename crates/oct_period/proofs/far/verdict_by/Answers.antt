use Rattle.std.proofs.Common.{ap, ap₂, ◌+◌, sym, ◌∙◌, arith, length, slice_index}
use Rattle.oct_mex.specs.NimValues.{nim_value}
use Rattle.oct_period.proofs.FarVerdicts.{is_refuted, is_proved}
use Rattle.oct_period.proofs.far.verdict_by.Goals as goal

pub returns-then-claimed-truth : goal.returns-then-claimed-truth
returns-then-claimed-truth g c =
    is_refuted c.args.block.now c.loop-index.index _ _ _ (omega (arith, ap length c.values-claimed-items.ensures.value)) c.loop-index.invariant
    (ap (λ s. s + c.loop-index.index) c.start-start.ensures.value) (ap (λ vs. slice_index vs c.loop-index.index) c.values-claimed-items.ensures.value)
    (c.value_by-truth.ensures.right ∙ ap₂ nim_value (sym c.requires.game) c.from.ensures) c.if-claimed-truth.true

pub returns : goal.returns
returns g c = is_proved c.args.block.now c.loop-index.index (omega (arith, ap length c.values-claimed-items.ensures.value)) c.loop-index.invariant
