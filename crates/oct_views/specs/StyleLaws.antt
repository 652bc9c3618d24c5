-- What holds of styles: a style loads nothing.
use Rattle.std.specs.Prelude.{◌≡◌, nat_eq, ◌||◌, Bool, false, List, [], ◌∷◌, codes}
use Rattle.std.specs.List.{list_any, starts_with}
use Rattle.std.specs.Str.{str_to_ascii_lowercase}
use Rattle.oct_text.specs.Words.{Text}

-- the part stands somewhere in the text
abbrev pub has_part : Text → Text → Bool
has_part [] part = starts_with nat_eq [] part
has_part (b ∷ rest) part = starts_with nat_eq (b ∷ rest) part || has_part rest part

-- what ends a style or loads something; an escape may spell any of it, and a string may be an address
abbrev pub loading_parts : List Text
loading_parts = codes "<" ∷ codes "\\" ∷ codes "\"" ∷ codes "'" ∷ codes "@import" ∷ codes "url(" ∷ []

abbrev pub LoadsNothing : Text → Type 0
LoadsNothing style = list_any (has_part (str_to_ascii_lowercase style)) loading_parts ≡ false
