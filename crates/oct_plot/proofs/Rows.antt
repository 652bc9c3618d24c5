-- A point that comes first in its row is put at its place among the points of all rows.
use Rattle.std.proofs.Common.{arith, ◌≡◌, ℕ, zero, suc, ◌+◌, ◌<◌, ◌≤◌, ◌==◌, Bool, true, false, List, [], ◌∷◌, ◌++◌, get_or, length, map, replicate, set, refl, sym, ap, ◌∙◌}
use Rattle.std.specs.Prelude.{nat_lt, if◌then◌else◌}
use Rattle.std.specs.BTreeSet.{insert_key}
use Rattle.std.specs.List.{All}
use Rattle.std.specs.Ordering.{nat_cmp, match_ordering, ordering_then}
use Rattle.std.specs.declared.cmp.Ordering.{Ordering}
use Rattle.std.specs.declared.cmp.Ordering.TheVariants.{Less, Equal, Greater}
use Rattle.std.specs.Cmp.{nat_cmp_is}
use Rattle.std.proofs.lemmas.Bool.{eqb-true, eqb-false, ltb-true, ltb-false}
use Rattle.std.proofs.lemmas.List.Elements.{All-set}
use Rattle.oct_plot.specs.Points.{point_cmp}
use Rattle.oct_plot.specs.Rows.{row_point, row_points, with_column, with_point}
use Rattle.oct_plot.specs.declared.points.Point.{Point}

-- the columns of a row are not before this one, as the first of them tells
abbrev pub IsBehind : ℕ → List ℕ → Type 0
IsBehind c [] = Unit {0}
IsBehind c (d ∷ ds) = c ≤ d

pub behind_less : (c b : ℕ) → c ≤ b → (ds : List ℕ) → IsBehind b ds → IsBehind c ds
behind_less c b less [] h = tt
behind_less c b less (d ∷ ds) h = omega (arith, less, h)

-- ---- the order of two points

below : (r s c d : ℕ) → r < s → point_cmp (row_point r c) (row_point s d) ≡ Less
below r s c d h = ap (λ o. ordering_then o (nat_cmp c d)) (sym (nat_cmp_is r s Less h))

above : (r s c d : ℕ) → s < r → point_cmp (row_point r c) (row_point s d) ≡ Greater
above r s c d h = ap (λ o. ordering_then o (nat_cmp c d)) (sym (nat_cmp_is r s Greater h))

beside : (r c d : ℕ) → point_cmp (row_point r c) (row_point r d) ≡ nat_cmp c d
beside r c d = ap (λ o. ordering_then o (nat_cmp c d)) (sym (nat_cmp_is r r Equal refl))

-- ---- where a point is put

-- before all of the rows above it
before_rows : (q c r : ℕ) (rows : List (List ℕ)) → q < r → insert_key point_cmp (row_points r rows) (row_point q c) ≡ row_point q c ∷ row_points r rows
before_rows q c r [] h = refl
before_rows q c r ([] ∷ rows) h = before_rows q c (r + 1) rows (omega (arith, h))
before_rows q c r ((d ∷ ds) ∷ rows) h =
    let rest = map (row_point r) ds ++ row_points (r + 1) rows in
    ap (λ o. match_ordering o (row_point q c ∷ row_point r d ∷ rest) (row_point r d ∷ rest) (row_point r d ∷ insert_key point_cmp rest (row_point q c))) (below q r c d h)

-- behind those of a row below it
behind_row : (q c r : ℕ) (ds : List ℕ) (rest : List Point) → r < q → insert_key point_cmp (map (row_point r) ds ++ rest) (row_point q c) ≡ map (row_point r) ds ++ insert_key point_cmp rest (row_point q c)
behind_row q c r [] rest h = refl
behind_row q c r (d ∷ ds) rest h =
    let more = map (row_point r) ds ++ rest in
    ap (λ o. match_ordering o (row_point q c ∷ row_point r d ∷ more) (row_point r d ∷ more) (row_point r d ∷ insert_key point_cmp more (row_point q c))) (above q r c d h)
    ∙ ap (λ ps. row_point r d ∷ ps) (behind_row q c r ds rest h)

-- at the front of its own row
in_row : (r c : ℕ) (ds : List ℕ) (rows : List (List ℕ)) → IsBehind c ds → insert_key point_cmp (map (row_point r) ds ++ row_points (r + 1) rows) (row_point r c) ≡ map (row_point r) (with_column c ds) ++ row_points (r + 1) rows
in_row r c [] rows behind = before_rows r c (r + 1) rows (omega arith)
in_row r c (d ∷ ds) rows behind = by (nat_lt c d) (d == c) refl refl
  where
    rest : List Point
    rest = map (row_point r) ds ++ row_points (r + 1) rows

    put : (o : Ordering) (same : Bool) → nat_cmp c d ≡ o → (d == c) ≡ same → insert_key point_cmp (map (row_point r) (d ∷ ds) ++ row_points (r + 1) rows) (row_point r c) ≡ match_ordering o (row_point r c ∷ row_point r d ∷ rest) (row_point r d ∷ rest) (row_point r d ∷ insert_key point_cmp rest (row_point r c))
    put o same cmp is = ap (λ p. match_ordering p (row_point r c ∷ row_point r d ∷ rest) (row_point r d ∷ rest) (row_point r d ∷ insert_key point_cmp rest (row_point r c))) (beside r c d ∙ cmp)

    got : (same : Bool) → (d == c) ≡ same → map (row_point r) (if same then d ∷ ds else c ∷ d ∷ ds) ++ row_points (r + 1) rows ≡ map (row_point r) (with_column c (d ∷ ds)) ++ row_points (r + 1) rows
    got same is = ap (λ b. map (row_point r) (if b then d ∷ ds else c ∷ d ∷ ds) ++ row_points (r + 1) rows) (sym is)

    by : (less same : Bool) → nat_lt c d ≡ less → (d == c) ≡ same → insert_key point_cmp (map (row_point r) (d ∷ ds) ++ row_points (r + 1) rows) (row_point r c) ≡ map (row_point r) (with_column c (d ∷ ds)) ++ row_points (r + 1) rows
    by true false l s = put Less false (sym (nat_cmp_is c d Less (ltb-true c d l))) s ∙ got false s
    by true true l s = absurd (omega (arith, ltb-true c d l, eqb-true d c s))
    by false true l s = put Equal true (sym (nat_cmp_is c d Equal (sym (eqb-true d c s)))) s ∙ got true s
    by false false l s = absurd (eqb-false d c s (omega (arith, ltb-false c d l, behind)))

-- at the front of the row where it belongs
put_in_rows : (q c r i : ℕ) (rows : List (List ℕ)) → q ≡ r + i → i < length rows → IsBehind c (get_or rows i [])
    → insert_key point_cmp (row_points r rows) (row_point q c) ≡ row_points r (set rows i (with_column c (get_or rows i [])))
put_in_rows q c r i [] at within behind = absurd (omega (arith, within))
put_in_rows q c r zero (ds ∷ rows) at within behind =
    let here : q ≡ r = omega (arith, at) in
    ap (λ n. insert_key point_cmp (row_points r (ds ∷ rows)) (row_point n c)) here ∙ in_row r c ds rows behind
put_in_rows q c r (suc i) (ds ∷ rows) at within behind =
    behind_row q c r ds (row_points (r + 1) rows) (omega (arith, at))
    ∙ ap (λ ps. map (row_point r) ds ++ ps) (put_in_rows q c (r + 1) i rows (omega (arith, at)) (omega (arith, within)) behind)

-- ---- what becomes of the rows

-- a point that is not behind the others of its row is put at its place
pub put_point : (p : Point) (rows : List (List ℕ)) → p.row < length rows → All (IsBehind p.column) rows → insert_key point_cmp (row_points 0 rows) p ≡ row_points 0 (with_point p rows)
put_point p rows within behind = put_in_rows p.row p.column 0 p.row rows (omega arith) within (behind p.row [] within)

with_behind : (c : ℕ) (ds : List ℕ) → IsBehind c ds → IsBehind c (with_column c ds)
with_behind c [] h = omega arith
with_behind c (d ∷ ds) h = elim (d == c) as (λ b. IsBehind c (if b then d ∷ ds else c ∷ d ∷ ds)) [ true ↦ h | false ↦ omega arith ]

-- and those are behind it then
pub behind_point : (p : Point) (rows : List (List ℕ)) → p.row < length rows → All (IsBehind p.column) rows → All (IsBehind p.column) (with_point p rows)
behind_point p rows within behind =
    All-set (IsBehind p.column) rows p.row (with_column p.column (get_or rows p.row [])) (with_behind p.column (get_or rows p.row []) (behind p.row [] within)) behind

-- rows that have none
pub none_in_rows : (r n : ℕ) → row_points r (replicate n []) ≡ []
none_in_rows r zero = refl
none_in_rows r (suc n) = none_in_rows (r + 1) n

empty_next : (n : ℕ) → replicate {A = List ℕ} n [] ++ [] ∷ [] ≡ replicate (suc n) []
empty_next zero = refl
empty_next (suc n) = ap (λ rows. [] ∷ rows) (empty_next n)

pub replicate_more : (n : ℕ) → replicate {A = List ℕ} n [] ++ [] ∷ [] ≡ replicate (n + 1) []
replicate_more n = let next : suc n ≡ n + 1 = omega arith in empty_next n ∙ ap (λ k. replicate k []) next
