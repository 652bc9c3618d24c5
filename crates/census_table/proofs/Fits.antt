-- What is said of the bytes from an index on, by the byte there and those behind it.
use Rattle.std.proofs.Common.{◌≡◌, ℕ, ◌+◌, ◌-◌, ◌==◌, ◌<◌, nat_lt, Bool, true, [], ◌∷◌, ◌++◌, length, get_or, drop, if◌then◌else◌, refl, sym, subst, append_assoc, arith}
use Rattle.census_table.proofs.Steps.{drop_at}
use Rattle.census_table.specs.LinePlaces.{Text}
use Rattle.census_table.specs.Fitting.{as_one, begin, ends, fitted_on, hides, hides_on, past, piece, seen}
use Rattle.census_table.specs.declared.fitting.Part.{Part}
use Rattle.census_table.specs.declared.fitting.Spot.{Spot}

pub past_at : (width : ℕ) (spot : Spot) (s : Text) → 0 < length s →
    past width spot s ≡ (if get_or s 0 0 == 10 then begin width (drop 1 s)
    else (if hides spot.is_hidden (get_or s 0 0) then record spot { is_hidden = hides_on spot.is_hidden (get_or s 0 0) }
    else (if nat_lt 0 spot.left then record spot { left = spot.left - 1 } else record spot { is_cut = true })))
past_at width spot [] h = absurd (omega arith)
past_at width spot (b ∷ s) h = refl

pub seen_at : (part : Part) (hidden : Bool) (s : Text) (i : ℕ) → i < length s →
    seen part hidden (drop i s) ≡ (if ends part (drop i s) then 0 else as_one (hides hidden (get_or s i 0)) + seen part (hides_on hidden (get_or s i 0)) (drop (i + 1) s))
seen_at part hidden s i h =
    subst (λ t. seen part hidden t ≡ (if ends part t then 0 else as_one (hides hidden (get_or s i 0)) + seen part (hides_on hidden (get_or s i 0)) (drop (i + 1) s))) (sym (drop_at s i h)) refl

fitted_step : (width : ℕ) (spot : Spot) (s : Text) (i : ℕ) → i < length s →
    fitted_on width spot (drop i s) ≡ piece spot (get_or s i 0) ++ fitted_on width (past width spot (drop i s)) (drop (i + 1) s)
fitted_step width spot s i h =
    subst (λ t. fitted_on width spot t ≡ piece spot (get_or s i 0) ++ fitted_on width (past width spot t) (drop (i + 1) s)) (sym (drop_at s i h)) refl

-- a step of the loop, which has the bytes from an index on as `rest`
pub fitted_further : (width : ℕ) (spot spot' : Spot) (s rest : Text) (i : ℕ) (shown shown' whole : Text) → i < length s → rest ≡ drop i s
    → shown' ≡ shown ++ piece spot (get_or s i 0) → spot' ≡ past width spot rest
    → shown ++ fitted_on width spot (drop i s) ≡ whole → shown' ++ fitted_on width spot' (drop (i + 1) s) ≡ whole
fitted_further width spot spot' s rest i shown shown' whole h is pushed moved same =
    let step = fitted_step width spot s i h in
    let b = get_or s i 0 in
    let later = fitted_on width (past width spot (drop i s)) (drop (i + 1) s) in
    let one : (shown ++ piece spot b) ++ later ≡ shown ++ (piece spot b ++ later) = append_assoc shown (piece spot b) later in
    let moved' : spot' ≡ past width spot (drop i s) = subst (λ r. spot' ≡ past width spot r) is moved in
    cc
