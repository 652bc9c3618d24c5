-- Sections of games that are the same.
use Rattle.std.proofs.Common.{◌≡◌, List, ◌++◌, ap, ◌∙◌}
use Rattle.oct_overview.specs.Line.{with_least}
use Rattle.oct_sheet.specs.Sheet.{GameSheet}
use Rattle.oct_ops.specs.Body.{Operation}
use Rattle.oct_text.specs.Words.{Text}
use Rattle.oct_text.specs.declared.shown.Shown.{Shown}
use Rattle.oct_views.specs.Report.{section, shown_section}

-- the section of a game as it is shown
pub section_is : (notes : List Operation) (how : Shown) (shown made game : GameSheet) (old new : Text) → shown ≡ with_least made → made ≡ game → new ≡ old ++ section notes how shown
    → new ≡ old ++ shown_section notes how game
section_is notes how shown made game old new least is e = e ∙ ap (λ s. old ++ section notes how s) (least ∙ ap with_least is)

-- and of a game that is the same
pub shown_is : (notes : List Operation) (how : Shown) (made game : GameSheet) (old new : Text) → made ≡ game → new ≡ old ++ shown_section notes how made → new ≡ old ++ shown_section notes how game
shown_is notes how made game old new is e = e ∙ ap (λ s. old ++ shown_section notes how s) is
