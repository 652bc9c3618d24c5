use Rattle.std.proofs.Common.{◌≡◌, ◌<◌, ◌^◌, ◌∙◌, arith}
use Rattle.oct_ops.specs.Faults.{note_fault}
use Rattle.oct_ops.specs.Operation.{noted}
use Rattle.oct_said.specs.Lines.{period_text}
use Rattle.oct_said.specs.Names.{note_name}
use Rattle.oct_said.proofs.Valid.{faultless}
use Rattle.census_noted.proofs.noting.note_period.Goals as goal

pub valid_note-requires : goal.valid_note-requires
valid_note-requires g c =
    let code = c.args.code in
    let seen = c.args.seen in
    let start : seen.start < 2 ^ 64 = omega (arith, c.if-prove-2.false) in
    let period : seen.period < 2 ^ 64 = omega (arith, c.if-prove-3.false) in
    let name : c.deref-in-Ok-false.result.now ≡ note_name code = c.deref-in-Ok-false.ensures.value ∙ c.in-Ok.ensures in
    let text : c.deref-in-Ok-false-2.result.now ≡ period_text code seen = c.deref-in-Ok-false-2.ensures.value ∙ c.in-Ok-period_text.ensures in
    (λ i. note_fault (noted (name i) (text i))) ∙ faultless code seen c.len.ensures.valid start period
