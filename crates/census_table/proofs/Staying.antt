-- Lines that fit stay as they are, and the front of each line is shown.
use Rattle.std.proofs.Common.{◌≡◌, ℕ, ◌+◌, ◌-◌, ◌==◌, ◌≤◌, ◌&&◌, nat_le, nat_lt, Bool, true, false, [], ◌∷◌, if◌then◌else◌, refl, subst, ap, arith, rules}
use Rattle.std.proofs.lemmas.Grind.{common_steps}
use Rattle.census_table.specs.LinePlaces.{Text}
use Rattle.census_table.specs.Fitting.{as_one, begin, ends, fitted_on, hides, hides_on, limit, seen}
use Rattle.census_table.specs.FittingLaws.{FittingLinesStay, FrontsStay, later_fit}
use Rattle.census_table.specs.declared.fitting.Part.TheVariants.{Front, Line}
use Rattle.census_table.specs.declared.fitting.Spot.{Spot}

ends_line : (b : ℕ) (s : Text) → ends Line (b ∷ s) ≡ (b == 10)
ends_line b s = search rules

seen_line : (hidden : Bool) (b : ℕ) (s : Text) → seen Line hidden (b ∷ s) ≡ (if b == 10 then 0 else as_one (hides hidden b) + seen Line (hides_on hidden b) s)
seen_line hidden b s = ap (λ e. if e then 0 else as_one (hides hidden b) + seen Line (hides_on hidden b) s) (ends_line b s)

limit_whole : (width : ℕ) (s : Text) → nat_le (seen Line false s) width ≡ true → limit width s ≡ seen Line false s
limit_whole width s h = grind (arith, common_steps)

-- one byte more, where what is behind stays
abbrev pub Stays : ℕ → Spot → Text → Type 0
Stays width spot s = seen Line spot.is_hidden s ≤ spot.left → later_fit width s ≡ true → fitted_on width spot s ≡ s

stays_by : (width : ℕ) (spot : Spot) (b : ℕ) (s : Text) → ((spot' : Spot) → Stays width spot' s) → (end hidden some : Bool)
    → (b == 10) ≡ end → hides spot.is_hidden b ≡ hidden → nat_lt 0 spot.left ≡ some → Stays width spot (b ∷ s)
stays_by width spot b s on true hidden some e h l few fit =
    let line : nat_le (seen Line false s) width && later_fit width s ≡ true = subst (λ t. (if t then nat_le (seen Line false s) width && later_fit width s else later_fit width s) ≡ true) e fit in
    let whole = limit_whole width s (grind (arith, common_steps, line)) in
    let later = on (begin width s) (omega (arith, whole)) (grind (arith, common_steps, line)) in
    grind (arith, common_steps, later, e)
stays_by width spot b s on false true some e h l few fit =
    let fit' : later_fit width s ≡ true = subst (λ t. (if t then nat_le (seen Line false s) width && later_fit width s else later_fit width s) ≡ true) e fit in
    let step = seen_line spot.is_hidden b s in
    let later = on (record spot { is_hidden = hides_on spot.is_hidden b }) (grind (arith, common_steps, step, e, h, few)) fit' in
    grind (arith, common_steps, later, e, h)
stays_by width spot b s on false false true e h l few fit =
    let fit' : later_fit width s ≡ true = subst (λ t. (if t then nat_le (seen Line false s) width && later_fit width s else later_fit width s) ≡ true) e fit in
    let step = seen_line spot.is_hidden b s in
    let later = on (record spot { left = spot.left - 1 }) (grind (arith, common_steps, step, e, h, few)) fit' in
    grind (arith, common_steps, later, e, h, l)
stays_by width spot b s on false false false e h l few fit =
    let step = seen_line spot.is_hidden b s in
    grind (arith, common_steps, step, e, h, l, few)

pub stays : (width : ℕ) (spot : Spot) (s : Text) → Stays width spot s
stays width spot [] few fit = refl
stays width spot (b ∷ s) few fit = stays_by width spot b s (λ spot'. stays width spot' s) (b == 10) (hides spot.is_hidden b) (nat_lt 0 spot.left) refl refl refl few fit

pub fitting_stay : FittingLinesStay
fitting_stay width s h =
    let whole = limit_whole width s (grind (arith, common_steps, h)) in
    stays width (begin width s) s (omega (arith, whole)) (grind (arith, common_steps, h))

-- the front of a line is a part of it
ends_front : (s : Text) → ends Line s ≡ true → ends Front s ≡ true
ends_front s e = grind (arith, common_steps, e)

front_by : (hidden : Bool) (b : ℕ) (s : Text) → ((hidden' : Bool) → seen Front hidden' s ≤ seen Line hidden' s) → (front line : Bool)
    → ends Front (b ∷ s) ≡ front → ends Line (b ∷ s) ≡ line → seen Front hidden (b ∷ s) ≤ seen Line hidden (b ∷ s)
front_by hidden b s on true line f l = rw f (omega arith)
front_by hidden b s on false true f l = absurd (grind (arith, common_steps, f, ends_front (b ∷ s) l))
front_by hidden b s on false false f l = rw f (rw l (let later = on (hides_on hidden b) in omega arith))

front_within : (hidden : Bool) (s : Text) → seen Front hidden s ≤ seen Line hidden s
front_within hidden [] = omega arith
front_within hidden (b ∷ s) = front_by hidden b s (λ hidden'. front_within hidden' s) (ends Front (b ∷ s)) (ends Line (b ∷ s)) refl refl

pub fronts_stay : FrontsStay
fronts_stay width s = let within = front_within false s in grind (arith, common_steps, within)
