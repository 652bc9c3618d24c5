-- What is said of the bytes from an index on, by the byte there and those behind it.
use Rattle.std.proofs.Common.{◌≡◌, ℕ, ◌+◌, ◌==◌, ◌<◌, ◌&&◌, ◌||◌, not, Bool, true, false, List, [], ◌∷◌, ◌++◌, codes, length, get_or, drop, take, ◌-◌, length-drop, if◌then◌else◌, refl, sym, subst, ap, append_assoc, add-one, arith}
use Rattle.std.proofs.Math.Seq.{drop-cons}
use Rattle.std.proofs.lemmas.List.{take_all}
use Rattle.census_table.specs.LinePlaces.{Text, begins, behind, fronts, is_game, says_period, says_refuted, start, stops}
use Rattle.census_table.specs.Table.{dressed, front, measured, measured_at, noted}
use Rattle.census_table.specs.declared.line_place.LinePlace.{LinePlace}

pub drop_at : (s : Text) (i : ℕ) → i < length s → drop i s ≡ get_or s i 0 ∷ drop (i + 1) s
drop_at s i h = rw (add-one, drop-cons s i 0)

pub game_at : (s : Text) (i : ℕ) → i < length s → is_game (drop i s) ≡ (if get_or s i 0 == 32 then fronts (drop i s) (codes " known ") else is_game (drop (i + 1) s))
game_at s i h = subst (λ t. is_game t ≡ (if get_or s i 0 == 32 then fronts t (codes " known ") else is_game (drop (i + 1) s))) (sym (drop_at s i h)) refl

pub behind_at : (colored : Bool) (place : LinePlace) (s : Text) → 0 < length s →
    behind colored place s ≡ (if get_or s 0 0 == 10 then start (drop 1 s)
    else (if begins place s
    then record place { column = place.column + 1; width = 1; is_colored = colored && (says_period s || says_refuted s) }
    else record place { width = place.width + 1; is_colored = place.is_colored && not (stops place s) }))
behind_at colored place [] h = absurd (omega arith)
behind_at colored place (b ∷ s) h = refl

measured_step : (widths : List ℕ) (place : LinePlace) (s : Text) (i : ℕ) → i < length s →
    measured widths place (drop i s) ≡ measured (measured_at widths place (drop i s)) (behind false place (drop i s)) (drop (i + 1) s)
measured_step widths place s i h =
    subst (λ t. measured widths place t ≡ measured (measured_at widths place t) (behind false place t) (drop (i + 1) s)) (sym (drop_at s i h)) refl

dressed_step : (colored : Bool) (widths : List ℕ) (place : LinePlace) (s : Text) (i : ℕ) → i < length s →
    dressed colored widths place (drop i s) ≡ front colored widths place (drop i s) ++ (get_or s i 0 ∷ dressed colored widths (behind colored place (drop i s)) (drop (i + 1) s))
dressed_step colored widths place s i h =
    subst (λ t. dressed colored widths place t ≡ front colored widths place t ++ (get_or s i 0 ∷ dressed colored widths (behind colored place t) (drop (i + 1) s))) (sym (drop_at s i h)) refl

-- the slice from an index on
pub rest_at : (s : Text) (i : ℕ) → take (length s - i) (drop i s) ≡ drop i s
rest_at s i = take_all (length s - i) (drop i s) (let e = length-drop i s in omega arith)

-- a step of each loop, which has the bytes from an index on as `rest`
pub dressed_on : (colored : Bool) (widths : List ℕ) (place place' : LinePlace) (s rest : Text) (i : ℕ) (text text' text'' whole : Text) → i < length s → rest ≡ drop i s
    → text' ≡ text ++ front colored widths place rest → text'' ≡ text' ++ (get_or s i 0 ∷ []) → place' ≡ behind colored place rest
    → text ++ dressed colored widths place (drop i s) ≡ whole → text'' ++ dressed colored widths place' (drop (i + 1) s) ≡ whole
dressed_on colored widths place place' s rest i text text' text'' whole h is fronted pushed moved same =
    let step = dressed_step colored widths place s i h in
    let f = front colored widths place (drop i s) in
    let later = dressed colored widths (behind colored place (drop i s)) (drop (i + 1) s) in
    let b = get_or s i 0 in
    let one : ((text ++ f) ++ (b ∷ [])) ++ later ≡ (text ++ f) ++ (b ∷ later) = append_assoc (text ++ f) (b ∷ []) later in
    let two : (text ++ f) ++ (b ∷ later) ≡ text ++ (f ++ (b ∷ later)) = append_assoc text f (b ∷ later) in
    let fronted' : text' ≡ text ++ f = subst (λ r. text' ≡ text ++ front colored widths place r) is fronted in
    let moved' : place' ≡ behind colored place (drop i s) = subst (λ r. place' ≡ behind colored place r) is moved in
    cc

pub noted_at : (widths : List ℕ) (place : LinePlace) (s : Text) → begins place s ≡ true → measured_at widths place s ≡ noted widths place.column place.width
noted_at widths place s e = ap (λ b. if b then noted widths place.column place.width else widths) e

pub kept_at : (widths : List ℕ) (place : LinePlace) (s : Text) → begins place s ≡ false → measured_at widths place s ≡ widths
kept_at widths place s e = ap (λ b. if b then noted widths place.column place.width else widths) e

pub measured_on : (widths widths' : List ℕ) (place place' : LinePlace) (s rest : Text) (i : ℕ) (whole : List ℕ) → i < length s → rest ≡ drop i s
    → widths' ≡ measured_at widths place rest → place' ≡ behind false place rest
    → measured widths place (drop i s) ≡ whole → measured widths' place' (drop (i + 1) s) ≡ whole
measured_on widths widths' place place' s rest i whole h is noted moved same =
    let step = measured_step widths place s i h in
    let noted' : widths' ≡ measured_at widths place (drop i s) = subst (λ r. widths' ≡ measured_at widths place r) is noted in
    let moved' : place' ≡ behind false place (drop i s) = subst (λ r. place' ≡ behind false place r) is moved in
    cc
