use Rattle.std.proofs.Common.{sym, ap, ◌∙◌}
use Rattle.std.proofs.lemmas.Result.{err_from_is_err_and}
use Rattle.oct_code.specs.TextFaults.{result_err, fault_of_parts}
use Rattle.oct_code.proofs.Parsed.{parsed_stored, parsed_text}
use Rattle.oct_code.proofs.Spelled.{fine, no_fault, trimmed-octal}
use Rattle.oct_code.proofs.code.Code.parse.Goals as goal

pub returns-in_err-check_parts-clause-refused : goal.returns-in_err-check_parts-clause-refused
returns-in_err-check_parts-clause-refused c =
    let p = err_from_is_err_and c.from_residual.result c.from_residual.ensures.1 in
    rw p.1 (λ code s. let clash = sym (no_fault c.args.text.now code s) ∙ ap fault_of_parts (sym c.in-Some.ensures) ∙ sym c.check_parts.ensures ∙ ap result_err c.in_err-check_parts.was in cc)

pub digits_of-requires-clause-octal : goal.digits_of-requires-clause-octal
digits_of-requires-clause-octal c =
    let f = fine c.in-Some.head c.in-Some.bytes.now (sym c.check_parts.ensures ∙ ap result_err c.in_ok-check_parts.was) in
    rw c.trimmed-digits.ensures (trimmed-octal c.in-Some.bytes.now f.octal)

pub invariant_of-result : goal.invariant_of-result
invariant_of-result c =
    let f = fine c.in-Some.head c.in-Some.bytes.now (sym c.check_parts.ensures ∙ ap result_err c.in_ok-check_parts.was) in
    parsed_stored c.in-Some.head c.in-Some.bytes.now c.trimmed-digits.result.now c.digits_of.result f c.trimmed-digits.ensures c.digits_of.ensures

pub returns-clause-ok : goal.returns-clause-ok
returns-clause-ok c =
    let f = fine c.in-Some.head c.in-Some.bytes.now (sym c.check_parts.ensures ∙ ap result_err c.in_ok-check_parts.was) in
    parsed_text c.in-Some.head c.in-Some.bytes.now c.trimmed-digits.result.now c.digits_of.result f c.trimmed-digits.ensures c.digits_of.ensures _ (sym c.in-Some.ensures)
