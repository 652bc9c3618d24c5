-- Escaped texts.
use Rattle.std.proofs.Common.{◌≡◌, ℕ, Bool, true, false, [], ◌∷◌, ◌++◌, refl, lit<}
use Rattle.std.specs.Prelude.{◌==◌, ◌||◌, ◌&&◌, not, codes, if◌then◌else◌, Contains}
use Rattle.std.specs.List.{list_all}
use Rattle.oct_text.specs.Words.{Text}
use Rattle.oct_text.specs.Escape.{escaped, escaped_byte}
use Rattle.oct_text.specs.EscapeLaws.{IsInert, ends_a_part, entities}
use Rattle.oct_text.specs.EscapeLaws as law

-- the entity for a byte, or what stands for another byte
inert_either : (v : Bool) (e other rest : Text) → Contains entities e → IsInert rest → (v ≡ false → IsInert (other ++ rest)) → IsInert ((if v then e else other) ++ rest)
inert_either true e other rest is done otherwise = law.entity e rest is done
inert_either false e other rest is done otherwise = otherwise refl

inert_byte : (b : ℕ) (rest : Text) → IsInert rest → IsInert (escaped_byte b ++ rest)
inert_byte b rest done =
    inert_either (b == 38) (codes "&amp;") _ rest (0, lit< tt, refl) done (λ no_and.
    inert_either (b == 60) (codes "&lt;") _ rest (1, lit< tt, refl) done (λ no_less.
    inert_either (b == 62) (codes "&gt;") _ rest (2, lit< tt, refl) done (λ no_greater.
    inert_either (b == 34) (codes "&quot;") _ rest (3, lit< tt, refl) done (λ no_quote.
    inert_either (b == 39) (codes "&#39;") _ rest (4, lit< tt, refl) done (λ no_apostrophe.
    law.byte b rest (λ i. no_and i || (no_less i || (no_greater i || (no_quote i || no_apostrophe i)))) done)))))

pub escaped_inert : (text : Text) → IsInert (escaped text)
escaped_inert [] = law.nothing
escaped_inert (b ∷ text) = inert_byte b (escaped text) (escaped_inert text)

-- a byte that ends nothing
abbrev passes : ℕ → Bool
passes b = not (ends_a_part b)

passes_either : (v : Bool) (e other rest : Text) → list_all passes (e ++ rest) ≡ true → (v ≡ false → list_all passes (other ++ rest) ≡ true)
    → list_all passes ((if v then e else other) ++ rest) ≡ true
passes_either true e other rest done otherwise = done
passes_either false e other rest done otherwise = otherwise refl

byte_passes : (b : ℕ) (rest : Text) → list_all passes rest ≡ true → list_all passes (escaped_byte b ++ rest) ≡ true
byte_passes b rest done =
    passes_either (b == 38) (codes "&amp;") _ rest done (λ no_and.
    passes_either (b == 60) (codes "&lt;") _ rest done (λ no_less.
    passes_either (b == 62) (codes "&gt;") _ rest done (λ no_greater.
    passes_either (b == 34) (codes "&quot;") _ rest done (λ no_quote.
    passes_either (b == 39) (codes "&#39;") _ rest done (λ no_apostrophe.
    (λ i. not (no_less i || (no_greater i || (no_quote i || no_apostrophe i))) && done i))))))

pub escaped_ends_nothing : (text : Text) → list_all passes (escaped text) ≡ true
escaped_ends_nothing [] = refl
escaped_ends_nothing (b ∷ text) = byte_passes b (escaped text) (escaped_ends_nothing text)
