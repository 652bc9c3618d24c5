-- The code that a text spells.
use Rattle.std.proofs.Common.{◌≡◌, ap, sym, ◌∙◌, Some, None, Result, Ok, Err, IfOk, IfErr, OnOk}
use Rattle.std.specs.Result.{result_ok}
use Rattle.oct_code.specs.Code.{Code}
use Rattle.oct_code.specs.CodeText.{IsCodeText}
use Rattle.oct_code.specs.TextFaults.{text_fault}
use Rattle.oct_code.specs.declared.error.CodeError.{CodeError}
use Rattle.oct_code.proofs.CodeLaws.{read-is}
use Rattle.oct_text.specs.Words.{Text}
use Rattle.oct_said.specs.Names.{faultless}

-- what parsing answers, where it meets its contract
pub parsed : (text : Text) (r : Result Code CodeError) → IfOk r (IsCodeText text) → OnOk r (text_fault text ≡ None) → IfErr r (λ e. text_fault text ≡ Some e) → result_ok r ≡ faultless text (text_fault text)
parsed text (Ok c) spelled none fault = ap Some (sym (read-is text c spelled)) ∙ sym (ap (faultless text) none)
parsed text (Err e) spelled none fault = sym (ap (faultless text) fault)
