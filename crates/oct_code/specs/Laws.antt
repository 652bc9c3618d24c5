-- What holds of every code.
use Rattle.std.specs.Prelude.{◌≡◌, ◌↔◌, ℕ, List, Ok}
use Rattle.oct_code.specs.Code.{Code, IsCode}
use Rattle.oct_code.specs.CodeText.{IsCodeText, code_text}
use Rattle.oct_code.specs.DigitFaults.{digits_fault}

-- digits without a fault are exactly those of a code
abbrev pub FaultlessAreCodes : Type 0
FaultlessAreCodes = (code : Code) → (digits_fault code.head code.digits ≡ Ok tt) ↔ IsCode code

-- the text in which a code is written is one of its texts
abbrev pub WrittenIsRead : Type 0
WrittenIsRead = (code : Code) → IsCode code → IsCodeText (code_text code) code

-- a text is that of one code
abbrev pub TextHasOneCode : Type 0
TextHasOneCode = (text : List ℕ) (a b : Code) → IsCodeText text a → IsCodeText text b → a ≡ b
