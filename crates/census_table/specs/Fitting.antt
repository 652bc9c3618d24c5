-- Lines that fit a terminal: what is longer is cut, behind what it says first.
use Rattle.std.specs.Prelude.{ℕ, ◌+◌, ◌-◌, ◌==◌, ◌&&◌, ◌||◌, max, nat_le, nat_lt, Bool, true, false, not, [], ◌∷◌, ◌++◌, codes, Option, Some, None, if◌then◌else◌}
use Rattle.census_table.specs.LinePlaces.{Text, fronts}
use Rattle.census_table.specs.declared.fitting.Part.{Part}
use Rattle.census_table.specs.declared.fitting.Part.TheVariants.{Line, Front}
use Rattle.census_table.specs.declared.fitting.Spot.{Spot}

-- ---- what is seen of a line

-- the byte belongs to a colour, which begins with 27 and ends with an m, 109; `hidden` says whether the byte before it does, and is not its last one
abbrev pub hides : Bool → ℕ → Bool
hides hidden b = hidden || b == 27

abbrev pub hides_on : Bool → ℕ → Bool
hides_on hidden b = hides hidden b && not (b == 109)

-- what may be cut: the counts of blocks and claims, and who says that a long period holds
abbrev pub is_free : Text → Bool
is_free s = fronts s (codes " blocks ") || fronts s (codes ", by ")

-- the line has its end there, and its front what may be cut
abbrev pub ends : Part → Text → Bool
ends Line s = fronts s (codes "\n")
ends Front s = fronts s (codes "\n") || is_free s

abbrev pub as_one : Bool → ℕ
as_one hidden = if hidden then 0 else 1

-- how many bytes of the line, or of its front, are seen
abbrev pub seen : Part → Bool → Text → ℕ
seen part hidden [] = 0
seen part hidden (b ∷ s) = if ends part (b ∷ s) then 0 else as_one (hides hidden b) + seen part (hides_on hidden b) s

-- ---- how much of a line is shown

-- how wide the line may be: its front is never cut
abbrev pub room : ℕ → Text → ℕ
room width s = max width (seen Front false s + 2)

-- how many of its bytes are shown; two points stand behind them where it has more
abbrev pub limit : ℕ → Text → ℕ
limit width s = if nat_le (seen Line false s) (room width s) then seen Line false s else room width s - 2

-- ---- places

-- the beginning of a line
abbrev pub begin : ℕ → Text → Spot
begin width s = record { left = limit width s; is_hidden = false; is_cut = false }

-- the place behind the first byte of these
abbrev pub past : ℕ → Spot → Text → Spot
past width spot [] = spot
past width spot (b ∷ s) =
    if b == 10 then begin width s
    else (if hides spot.is_hidden b then record spot { is_hidden = hides_on spot.is_hidden b }
    else (if nat_lt 0 spot.left then record spot { left = spot.left - 1 } else record spot { is_cut = true }))

-- ---- the text

-- what stands for a byte: itself, two points for the first that is cut, or nothing
abbrev pub piece : Spot → ℕ → Text
piece spot b =
    if b == 10 || (hides spot.is_hidden b || nat_lt 0 spot.left) then b ∷ []
    else (if spot.is_cut then [] else codes "..")

abbrev pub fitted_on : ℕ → Spot → Text → Text
fitted_on width spot [] = []
fitted_on width spot (b ∷ s) = piece spot b ++ fitted_on width (past width spot (b ∷ s)) s

abbrev pub fitted : ℕ → Text → Text
fitted width s = fitted_on width (begin width s) s

-- where there is a width
abbrev pub fitted_to : Option ℕ → Text → Text
fitted_to None s = s
fitted_to (Some width) s = fitted width s

-- ---- which width

-- that which is asked for, and on a terminal else that which the environment says
abbrev pub width_of : Option ℕ → Bool → Option ℕ → Option ℕ
width_of (Some width) terminal columns = Some width
width_of None true columns = columns
width_of None false columns = None
