-- The texts that name periods.
use Rattle.std.specs.Prelude.{ℕ, ◌+◌, ◌*◌, ◌^◌, nat_eq, nat_lt, Bool, ◌&&◌, List, [], ◌∷◌, ◌++◌, codes, Option, Some, None, if◌then◌else◌}
use Rattle.std.specs.Char.{is_ascii_digit}
use Rattle.std.specs.Cmp.Lexicographic.{pointwise}
use Rattle.std.specs.List.{list_all}
use Rattle.std.specs.Str.{all_ascii_digits}
use Rattle.std.specs.Str.Parse.{digits_value}
use Rattle.oct_code.specs.Code.{Code, len}
use Rattle.oct_code.specs.CodeText.{code_text}
use Rattle.oct_code.specs.declared.limits.TheConstants.{LIMIT}
use Rattle.oct_mex.specs.declared.period.SeenPeriod.{SeenPeriod}
use Rattle.oct_text.specs.Words.{Text, labelled}
use Rattle.oct_bfile.specs.Bfile.{is_filled, words}

-- it takes more values to prove it of the game than a census keeps
abbrev pub is_long : Code → SeenPeriod → Bool
is_long c seen = nat_lt LIMIT (2 * seen.start + 2 * seen.period + len c)

-- the period of a game, and the heap from which on it holds
abbrev pub period_text : Code → SeenPeriod → Text
period_text c seen = code_text c ++ labelled (codes " period ") seen.period ++ labelled (codes " from ") seen.start

abbrev pub are_digits : Text → Bool
are_digits word = list_all is_ascii_digit word

-- one or more decimal digits, of a number below 2^64
abbrev pub is_number : Text → Bool
is_number word = is_filled word && (all_ascii_digits word && nat_lt (digits_value 10 word) (2 ^ 64))

abbrev pub number_of : Text → Option ℕ
number_of word = if is_number word then Some (digits_value 10 word) else None

abbrev pub both : Option ℕ → Option ℕ → Option SeenPeriod
both None start = None
both (Some period) None = None
both (Some period) (Some start) = Some (record { start = start; period = period })

-- the third word and the fifth
abbrev pub seen_by : List Text → Option SeenPeriod
seen_by [] = None
seen_by (game ∷ []) = None
seen_by (game ∷ label ∷ []) = None
seen_by (game ∷ label ∷ period ∷ []) = None
seen_by (game ∷ label ∷ period ∷ from ∷ []) = None
seen_by (game ∷ label ∷ period ∷ from ∷ start ∷ rest) = both (number_of period) (number_of start)

abbrev pub seen_in : Text → Option SeenPeriod
seen_in line = seen_by (words line)

-- the period, if this is the text of a note of it
abbrev pub if_said : Code → Text → Option SeenPeriod → Option SeenPeriod
if_said c text None = None
if_said c text (Some seen) = if pointwise nat_eq (period_text c seen) text then Some seen else None

abbrev pub said_by : Code → Text → Option SeenPeriod
said_by c text = if_said c text (seen_in text)
