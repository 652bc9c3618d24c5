-- Texts of codes are ASCII.
use Rattle.std.proofs.Common.{◌≡◌, ◌⊎◌, inl, inr, ℕ, ◌+◌, ◌<◌, ◌≤◌, List, [], ◌∷◌, arith}
use Rattle.std.specs.List.{All}
use Rattle.std.specs.Str.{IsAscii}
use Rattle.std.proofs.lemmas.List.Elements.{All-map, All-weaker}
use Rattle.std.proofs.lemmas.Str.Ascii.{IsAscii-cons, IsAscii-from_all, IsAscii-nil}
use Rattle.oct_code.specs.Code.{Code, IsCode}
use Rattle.oct_code.specs.CodeText.{code_text, digit_bytes, shown_digits}

digits_are_ascii : (ds : List ℕ) → All (λ d. d ≤ 7) ds → IsAscii (digit_bytes ds)
digits_are_ascii ds octal =
    IsAscii-from_all (digit_bytes ds) (All-map (λ b. b < 128) (λ d. 48 + d) ds (All-weaker (λ d. d ≤ 7) (λ d. 48 + d < 128) (λ d small. omega arith) ds octal))

shown_are_ascii : (ds : List ℕ) → All (λ d. d ≤ 7) ds → IsAscii (digit_bytes (shown_digits ds))
shown_are_ascii [] octal = IsAscii-cons 48 [] (omega arith) IsAscii-nil
shown_are_ascii (d ∷ ds) octal = digits_are_ascii (d ∷ ds) octal

head_is_ascii : (head : ℕ) → (head ≡ 0) ⊎ (head ≡ 4) → 48 + head < 128
head_is_ascii head (inl none) = omega arith
head_is_ascii head (inr four) = omega arith

pub code_is_ascii : (c : Code) → IsCode c → IsAscii (code_text c)
code_is_ascii c is =
    let digits = digit_bytes (shown_digits c.digits) in
    IsAscii-cons (48 + c.head) (46 ∷ digits) (head_is_ascii c.head is.head) (IsAscii-cons 46 digits (omega arith) (shown_are_ascii c.digits is.octal))
