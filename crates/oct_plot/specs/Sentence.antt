-- What is proved of all heaps of a game, in words: the values that a proof gives for ever.
use Rattle.std.specs.Prelude.{ℕ, nat_le, if◌then◌else◌, List, [], ◌∷◌, take, drop, codes, Option, Some, None}
use Rattle.std.specs.List.{concat, flat_map}
use Rattle.std.specs.Fmt.{decimal}
use Rattle.oct_ops.specs.Operation.{Period}
use Rattle.oct_text.specs.Words.{Text}

abbrev pub word_of : ℕ → Text
word_of value = concat (codes " " ∷ decimal value ∷ [])

-- the values of the first period, where it is short
abbrev pub short_words : List ℕ → Period → Text
short_words values p = concat (codes ":" ∷ flat_map word_of (take p.period (drop p.start values)) ∷ [])

abbrev pub period_words : List ℕ → Period → Text
period_words values p = if nat_le p.period 40 then short_words values p else []

abbrev pub goes_on : Period → Text
goes_on p = concat (codes "From heap " ∷ decimal p.start ∷ codes " on the nim-values repeat with period " ∷ decimal p.period ∷ codes ", for ever" ∷ [])

-- what is proved of all heaps
abbrev pub sentence : List ℕ → Option Period → Text
sentence values None = codes "No period is proved."
sentence values (Some p) = concat (goes_on p ∷ period_words values p ∷ codes "." ∷ [])
