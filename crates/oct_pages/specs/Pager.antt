-- Which lines of a catalogue are shown.
use Rattle.std.specs.Prelude.{◌≡◌, ℕ, zero, suc, Bool, true, false, nat_lt, List, [], ◌∷◌, ◌++◌}
use Rattle.oct_pages.specs.Catalogue.{Text, page_length}
use Rattle.oct_pages.specs.declared.pager.Pager.{Pager}
use Rattle.oct_pages.specs.declared.pager.Pager.TheVariants.{All, Page}

-- the next line is shown, where so many lines stand before the page and so many are left of it
abbrev pub shows_at : ℕ → ℕ → Bool
shows_at zero zero = false
shows_at zero (suc left) = true
shows_at (suc before) left = false

abbrev pub shows : Pager → Bool
shows All = true
shows (Page before left) = shows_at before left

abbrev pub passed_at : ℕ → ℕ → Pager
passed_at zero zero = Page 0 0
passed_at zero (suc left) = Page 0 left
passed_at (suc before) left = Page before left

-- once the next line was passed
abbrev pub passed : Pager → Pager
passed All = All
passed (Page before left) = passed_at before left

abbrev pub seen_line : Pager → Text → Text
seen_line w line = elim (shows w) [ true ↦ line | false ↦ [] ]

-- what is shown of the lines
abbrev pub seen : Pager → List Text → Text
seen w [] = []
seen w (line ∷ lines) = seen_line w line ++ seen (passed w) lines

-- once they were passed
abbrev pub after : Pager → List Text → Pager
after w [] = w
after w (line ∷ lines) = after (passed w) lines

-- the text grew by what is shown of the lines, and they were passed
pub record AreShown (w v : Pager) (old new : Text) (lines : List Text) : Type 0 where
  pub text : new ≡ old ++ seen w lines
  pub pager : v ≡ after w lines

-- a line of the page was passed
abbrev pub is_reached : Pager → Bool
is_reached All = true
is_reached (Page before left) = nat_lt left page_length

-- the page is full
abbrev pub is_full : ℕ → ℕ → Bool
is_full zero zero = true
is_full zero (suc left) = false
is_full (suc before) left = false

-- no line to come is shown, and none has to be counted
abbrev pub is_over : Pager → Bool
is_over All = false
is_over (Page before left) = is_full before left
