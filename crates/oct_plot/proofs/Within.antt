-- The points lie within the rows, and none is further to the right than that of the next heap.
use Rattle.std.proofs.Common.{arith, ◌≡◌, ℕ, zero, suc, ◌+◌, ◌-◌, ◌*◌, ◌/◌, ◌<◌, ◌≤◌, List, [], ◌∷◌, drop, get_or, length, map, max, sym, ap, ◌∙◌}
use Rattle.std.specs.List.{fold}
use Rattle.std.proofs.lemmas.Nat.{div-add-mod', div_below, le-div}
use Rattle.std.proofs.Math.Nat.{le-max_left, le-max_right}
use Rattle.std.proofs.lemmas.List.{drop_more}
use Rattle.std.specs.BTreeSet.{insert_key}
use Rattle.std.specs.List.{enumerate_from}
use Rattle.oct_ops.specs.Arranged.{arranged}
use Rattle.oct_plot.specs.Points.{columns, frame_of, point_at, point_cmp, scaled}
use Rattle.oct_plot.specs.declared.points.Frame.{Frame}
use Rattle.oct_plot.specs.declared.points.Point.{Point}

greatest_first : (a : ℕ) (xs : List ℕ) → a ≤ fold max a xs
greatest_first a [] = omega arith
greatest_first a (x ∷ xs) = omega (arith, le-max_left a x, greatest_first (max a x) xs)

greatest_each : (a : ℕ) (xs : List ℕ) (i d : ℕ) → i < length xs → get_or xs i d ≤ fold max a xs
greatest_each a [] i d within = absurd (omega (arith, within))
greatest_each a (x ∷ xs) zero d within = omega (arith, le-max_right a x, greatest_first (max a x) xs)
greatest_each a (x ∷ xs) (suc i) d within = greatest_each (max a x) xs i d (omega (arith, within))

row_within : (value whole : ℕ) → 0 < whole → value ≤ whole → scaled value whole 640 < 641
row_within value whole some within = div_below (value * 640) whole 641 some (omega (arith, some, within))

pub column_falls : (place heaps : ℕ) → 0 < heaps → scaled (place - 1) heaps columns ≤ scaled place heaps columns
column_falls place heaps some =
    let parts = div-add-mod' ((place - 1) * 1400) heaps in
    le-div ((place - 1) * 1400 / heaps) (place * 1400) heaps some (omega (arith, parts))

-- a heap's point is in one of the rows
pub point_within : (first : ℕ) (values : List ℕ) (heap i d : ℕ) (frame : Frame) (p : Point) → frame ≡ frame_of first values → p ≡ point_at frame (heap, get_or values i d) → i < length values → p.row < 641
point_within first values heap i d frame p is at within =
    let greatest = max (fold max 0 values) 1 in
    let row : p.row ≡ scaled (get_or values i d) greatest 640 = ap (λ q. q.row) at ∙ ap (λ f. scaled (get_or values i d) f.values 640) is in
    let some : 0 < greatest = omega (arith, le-max_right (fold max 0 values) 1) in
    let small : get_or values i d ≤ greatest = omega (arith, greatest_each 0 values i d within, le-max_left (fold max 0 values) 1) in
    omega (arith, row, row_within (get_or values i d) greatest some small)

-- its column is that of its place
pub point_column : (first : ℕ) (values : List ℕ) (i v : ℕ) (frame : Frame) (p : Point) → frame ≡ frame_of first values → p ≡ point_at frame (first + i, v) → p.column ≡ scaled i frame.heaps columns
point_column first values i v frame p is at =
    let begin : frame.first ≡ first = ap (λ f. f.first) is in
    let place : first + i - frame.first ≡ i = omega (arith, begin) in
    ap (λ q. q.column) at ∙ ap (λ k. scaled k frame.heaps columns) place

-- it comes before those of the heaps behind it
pub point_next : (first place : ℕ) (values : List ℕ) (d : ℕ) (frame : Frame) (p : Point) → frame ≡ frame_of first values → p ≡ point_at frame (first + (place - 1), get_or values (place - 1) d) → 0 < place → place ≤ length values
    → insert_key point_cmp (arranged point_cmp (map (point_at (frame_of first values)) (enumerate_from (first + place) (drop place values)))) p
    ≡ arranged point_cmp (map (point_at (frame_of first values)) (enumerate_from (first + (place - 1)) (drop (place - 1) values)))
point_next first place values d frame p is at some within =
    let f = point_at (frame_of first values) in
    let value = get_or values (place - 1) d in
    let next : place - 1 + 1 ≡ place = omega (arith, some) in
    let heap : first + place ≡ first + (place - 1) + 1 = omega (arith, some) in
    let cut = drop_more values (place - 1) d (omega (arith, some, within)) ∙ ap (λ k. value ∷ drop k values) next in
    let point = at ∙ ap (λ g. point_at g (first + (place - 1), value)) is in
    ap (λ k. insert_key point_cmp (arranged point_cmp (map f (enumerate_from k (drop place values)))) p) heap
    ∙ ap (λ q. insert_key point_cmp (arranged point_cmp (map f (enumerate_from (first + (place - 1) + 1) (drop place values)))) q) point
    ∙ ap (λ vs. arranged point_cmp (map f (enumerate_from (first + (place - 1)) vs))) (sym cut)
