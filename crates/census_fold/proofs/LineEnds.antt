-- A line whose end is in the buffer.
use Rattle.std.proofs.Common.{arith, ◌≡◌, ◌≢◌, ℕ, ◌+◌, ◌-◌, ◌<◌, ◌≤◌, List, [], All, take, get_or, get_or-take, length, length-take-le, Option, eq-eqb, eqb-true, sym, ap, ◌∙◌}
use Rattle.std.specs.Prelude.{IfSome}
use Rattle.std.specs.Io.{IsEmptyOrEndsWith, StartsWith}
use Rattle.std.specs.Io.BufRead.{take_through, DropsConsumable, DropsThrough}
use Rattle.std.specs.Io.KnownBytes.{Keeps}
use Rattle.std.proofs.BufReadLemmas.{Consumes_shown, Consumes_through}
use Rattle.std.proofs.KnownBytes.{Consumes-nil}
use Rattle.std.proofs.Transfers.{StopsAt-take}
use Rattle.std.proofs.lemmas.List.{get_or_default}
use Rattle.std.proofs.lemmas.List.Elements.{All-nil}
use Rattle.memchr.specs.Find.{NoneBefore, Passes, is_byte}

abbrev IsFirstEnd : List ℕ → ℕ → Type 0
IsFirstEnd shown at = NoneBefore (Passes (is_byte 10) shown) 0 (length shown) at × Passes (is_byte 10) shown at

none_before : (shown : List ℕ) (at : ℕ) → at < length shown → IsFirstEnd shown at → All (λ x. x ≢ 10) (take (at + 1 - 1) shown)
none_before shown at inside first =
    let same : at + 1 - 1 ≡ at = omega arith in
    rw same (λ k d lt.
    let below : k < at = omega (arith, lt, length-take-le at shown (omega arith)) in
    λ e. first.0.before k (omega arith) below (eq-eqb _ _ (get_or_default shown k 0 d (omega arith) ∙ sym (get_or-take at shown k d below) ∙ e)))

ends_there : (shown : List ℕ) (at : ℕ) → at < length shown → IsFirstEnd shown at → IsEmptyOrEndsWith (take (at + 1) shown) 10
ends_there shown at inside first = λ some.
    let long = length-take-le (at + 1) shown (omega arith) in
    let last : length (take (at + 1) shown) - 1 ≡ at = omega (arith, long) in
    ap (λ n. get_or (take (at + 1) shown) n 0) last ∙ get_or-take (at + 1) shown at 0 (omega arith) ∙ eqb-true _ _ first.1

-- what is shown up to its first line end is the next line
pub line_is_shown : (a b c : Option (List ℕ)) (buffered : Option ℕ) (shown : List ℕ) (at : ℕ) → at < length shown → IsFirstEnd shown at
    → IfSome a (λ xs. StartsWith xs shown) → IfSome a (λ xs. length shown ≡ 0 → xs ≡ []) → Keeps a b
    → IfSome a (λ _. IfSome buffered (λ k. length shown ≤ k)) → DropsConsumable b c buffered (at + 1)
    → IfSome a (λ xs. take (at + 1) shown ≡ take_through 10 xs) × DropsThrough a c 10
line_is_shown a b c buffered shown at inside first front end kept fits drops =
    let moved = Consumes_shown a b c buffered shown (at + 1) (omega arith) front end kept fits drops in
    Consumes_through 10 a a c [] (take (at + 1) shown) (Consumes-nil a) (All-nil (λ x. x ≢ 10)) moved.0
    (StopsAt-take shown 10 (at + 1) (omega arith) (none_before shown at inside first))
    (ends_there shown at inside first)
    (λ none. absurd (omega (arith, length-take-le (at + 1) shown (omega arith), none)))
