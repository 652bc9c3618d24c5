use Rattle.std.proofs.Common.{ap, sym, ◌∙◌, arith, length}
use Rattle.oct_mex.specs.Held.{Held}
use Rattle.page.specs.Checked.{checked_lines, wrong_lines}
use Rattle.page.proofs.WrongLines.{checked_told}
use Rattle.page.proofs.checking.check.Goals as goal

pub returns-clause-ok : goal.returns-clause-ok
returns-clause-ok g c = λ other.
    let file = c.in_ok-file.file in
    let code = ap (λ (h : Held). h.code) c.in_ok-extend_to.ensures.ok ∙ ap (λ (h : Held). h.code) c.new-values.ensures in
    let values = c.deref.ensures.value in
    checked_told c.args.code.now c.args.file.now c.in_ok-code.code (record { start = file.start; values = file.values.items }) c.in_ok-checked_text.field-0.items
    (omega (arith, c.if-file-gt-INPUT_LIMIT.false)) (sym c.read_code.ensures ∙ c.in_ok-code.was) c.in_ok-file.ensures.ok
    (c.in_ok-checked_text.ensures ∙ (λ i. checked_lines (length (values i)) (wrong_lines (code i) file.start (values i))))
