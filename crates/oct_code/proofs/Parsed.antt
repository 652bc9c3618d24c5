-- What `parse` makes of a text without a fault.
use Rattle.std.proofs.Common.{◌≡◌, ℕ, ◌-◌, ◌++◌, List, length, take, drop, replicate, sym, ap, ◌∙◌, subst}
use Rattle.std.proofs.Math.Seq.{take-append_seam}
use Rattle.oct_code.specs.Code.{Code}
use Rattle.oct_code.specs.CodeText.{IsCodeText}
use Rattle.oct_code.specs.TextFaults.{parts, trimmed, digits_of, around_point}
use Rattle.oct_code.specs.Fields.{IsStored, code_of, stored}
use Rattle.oct_code.specs.declared.code.Code.TheInside.{Inside}
use Rattle.oct_code.specs.declared.limits.TheConstants.{MAX_DIGITS}
use Rattle.oct_code.proofs.Spelled.{Fine, fine_code, same_length, spelled}

abbrev zeros : List ℕ
zeros = replicate MAX_DIGITS 0

abbrev pub inside : ℕ → List ℕ → List ℕ → Inside
inside head digits array = record { head = head - 48; len = length digits; digits = array }

module _ (head : ℕ) (bytes digits array : List ℕ) (f : Fine head bytes) (is : digits ≡ trimmed bytes) (filled : array ≡ digits_of digits ++ drop (length digits) zeros) where
  same_len : length (digits_of (trimmed bytes)) ≡ length digits
  same_len = same_length (trimmed bytes) ∙ sym (ap length is)

  same_array : digits_of (trimmed bytes) ++ drop (length (digits_of (trimmed bytes))) zeros ≡ array
  same_array = (λ i. digits_of (sym is i) ++ drop (same_len i) zeros) ∙ sym filled

  pub parsed_stored : IsStored (inside head digits array)
  parsed_stored =
      let same : inside head (digits_of (trimmed bytes)) (digits_of (trimmed bytes) ++ drop (length (digits_of (trimmed bytes))) zeros) ≡ inside head digits array = λ i. record { head = head - 48; len = same_len i; digits = same_array i } in
      subst IsStored same (stored (head - 48) (digits_of (trimmed bytes)) (fine_code head bytes f))

  pub parsed_text : (text : List ℕ) → around_point text ≡ parts head bytes → IsCodeText text (code_of (inside head digits array))
  parsed_text text at =
      let front : take (length digits) array ≡ digits_of (trimmed bytes) = (λ i. take (sym same_len i) (sym same_array i)) ∙ take-append_seam (digits_of (trimmed bytes)) _ in
      let code : List ℕ → Code = λ ds. record { head = head - 48; digits = ds } in
      subst (λ ds. IsCodeText text (code ds)) (sym front) (spelled text head bytes at f)
