-- What is told of the games of which the conditions hold, and the period that is found of a game.
use Rattle.std.proofs.Common.{◌≡◌, ℕ, Bool, true, false, List, [], ◌∷◌, ◌++◌, filter, refl, sym, ap, ◌∙◌}
use Rattle.std.specs.Prelude.{if◌then◌else◌, Option}
use Rattle.std.specs.List.{flat_map}
use Rattle.oct_mex.proofs.NimValues.{nim_values-length}
use Rattle.oct_ops.specs.Body.{Operation}
use Rattle.oct_ops.specs.Operation.{Period}
use Rattle.oct_pages.specs.Sheet.{GameSheet, sheet_by}
use Rattle.oct_period.specs.Found.{found_period}
use Rattle.oct_period.specs.GameContent.{GameContent}
use Rattle.oct_verify.specs.Filing.{blocks_in}
use Rattle.oct_verify.specs.Known.{known}
use Rattle.oct_overview.specs.Line.{least_in, least_of}

-- the texts of the items that pass a test, and nothing for the others
pub flat_map-filter : {X : Type 0} (p : X → Bool) (text : X → List ℕ) (xs : List X) → flat_map (λ x. if p x then text x else []) xs ≡ flat_map text (filter p xs)
flat_map-filter p text [] = refl
flat_map-filter p text (x ∷ xs) =
    elim (p x) as (λ b. (if b then text x else []) ++ flat_map (λ y. if p y then text y else []) xs ≡ flat_map text (if b then x ∷ filter p xs else filter p xs)) [
      | true ↦ ap (λ t. text x ++ t) (flat_map-filter p text xs)
      | false ↦ flat_map-filter p text xs
    ]

-- the period that the blocks of a game prove is that of its sheet
pub least_in-sheet_by : (game : GameContent) (ops : List Operation) → found_period game.code (blocks_in game.blocks) ≡ least_in (sheet_by game ops)
least_in-sheet_by game ops = ap (least_of game.code) (sym (nim_values-length game.code (known (blocks_in game.blocks))))

-- the same of a sheet that is this one
pub least_found : (game : GameContent) (ops : List Operation) (sheet : GameSheet) (found : Option Period) → sheet ≡ sheet_by game ops → found ≡ found_period game.code (blocks_in game.blocks) → found ≡ least_in sheet
least_found game ops sheet found is e = e ∙ least_in-sheet_by game ops ∙ sym (ap least_in is)
