-- The code of a text is what is left of its digits.
use Rattle.std.proofs.Common.{◌≡◌, ℕ, List, ◌++◌, sym, ap, ◌∙◌, Some, None, Result, Ok, Err, IfOk, IfErr, OnOk}
use Rattle.oct_code.specs.Code.{Code}
use Rattle.oct_code.specs.CodeText.{IsCodeText}
use Rattle.oct_code.specs.TextFaults.{around_point, text_fault, code_of_parts}
use Rattle.oct_code.specs.declared.error.CodeError.{CodeError}
use Rattle.oct_code.proofs.CodeLaws.{read-is}
use Rattle.census_state.specs.Codes.{read_code}
use Rattle.census_state.specs.Steps.{unless}
use Rattle.census_state.specs.declared.fault.Fault.{Fault}

code_read : (text : List ℕ) (c : Code) → IsCodeText text c → text_fault text ≡ None → read_code text ≡ Ok c
code_read text c s none = ap (λ fault. unless fault (code_of_parts (around_point text))) none ∙ ap Ok (read-is text c s)

-- what parsing answers, where it meets its contract
pub parsed : (text : List ℕ) (result : Result Code CodeError) → IfOk result (IsCodeText text) → OnOk result (text_fault text ≡ None) → IfErr result (λ e. text_fault text ≡ Some e) → result ≡ read_code text
parsed text (Ok c) spelled none fault = sym (code_read text c spelled none)
parsed text (Err e) spelled none fault = sym (ap (λ f. unless f (code_of_parts (around_point text))) fault)

-- ---- words one after another

-- the codes that were read, and those of the rest
abbrev pub after : List Code → Result (List Code) Fault → Result (List Code) Fault
after games (Ok more) = Ok (games ++ more)
after games (Err e) = Err e
