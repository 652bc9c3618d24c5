-- The axes of a plot. The point where they meet has the place 0 0; a place above it has a negative second number.
use Rattle.std.specs.Prelude.{ℕ, ◌+◌, ◌-◌, ◌*◌, ◌/◌, ◌^◌, nat_le, List, [], ◌∷◌, ◌++◌, map, codes, find, unwrap_or}
use Rattle.std.specs.Int.{div_ceil}
use Rattle.std.specs.List.{concat, flat_map, range_with_len}
use Rattle.std.specs.Fmt.{decimal}
use Rattle.oct_text.specs.Words.{Text}
use Rattle.oct_plot.specs.Points.{scaled}
use Rattle.oct_plot.specs.declared.axes.Axis.{Axis}
use Rattle.oct_plot.specs.declared.axes.Axis.TheVariants.{Heaps, Values}
use Rattle.oct_plot.specs.declared.points.Frame.{Frame}

-- how wide and how high the axes are drawn
abbrev pub width : ℕ
width = 700

abbrev pub height : ℕ
height = 320

-- how far ticks may be apart: 1, 2 or 5 times a power of ten, up to 10^9
abbrev pub steps : List ℕ
steps = flat_map (λ i. 10 ^ i ∷ 2 * 10 ^ i ∷ 5 * 10 ^ i ∷ []) (range_with_len 0 9) ++ 10 ^ 9 ∷ []

-- how far the ticks of an axis are apart that spans so much: the least step with at most nine ticks
abbrev pub step_of : ℕ → ℕ
step_of span = unwrap_or (find (λ step. nat_le span (8 * step)) steps) span

-- a line at a place of an axis, and a number beside it, in the texts that stand around them
abbrev pub marked : Text → Text → Text → ℕ → ℕ → Text
marked front middle back place n = concat (front ∷ decimal place ∷ middle ∷ decimal place ∷ back ∷ decimal n ∷ codes "</text>\n" ∷ [])

-- the tick of a heap, so far to the right
abbrev pub heap_tick : ℕ → ℕ → Text
heap_tick right heap = marked (codes "<path d=\"M") (codes " 0v6\"/><text x=\"") (codes "\" y=\"26\">") right heap

-- the tick of a nim-value, so far above
abbrev pub value_tick : ℕ → ℕ → Text
value_tick above value = marked (codes "<path d=\"M0 -") (codes "h-6\"/><text class=\"value\" x=\"-12\" y=\"-") (codes "\" dy=\"6\">") above value

-- the tick of a number on an axis that begins at the first number and spans so much
abbrev pub tick : Axis → ℕ → ℕ → ℕ → Text
tick Heaps first span n = heap_tick (scaled (n - first) span width) n
tick Values first span n = value_tick (scaled (n - first) span height) n

-- how many ticks the axis has: as many as multiples of the step lie on it
abbrev pub tick_count : ℕ → ℕ → ℕ → ℕ
tick_count first span step = (first + span) / step + 1 - div_ceil first step

-- the ticks at the multiples of the step, from the first that lies on the axis
abbrev pub ticks : Axis → ℕ → ℕ → Text
ticks axis first span =
    concat (map (λ i. tick axis first span ((div_ceil first (step_of span) + i) * step_of span)) (range_with_len 0 (tick_count first span (step_of span))))

abbrev pub axes : Frame → Text
axes frame = concat (
    codes "<path d=\"M0 0H700M0 0V-320\"/>\n"
    ∷ ticks Heaps frame.first frame.heaps
    ∷ ticks Values 0 frame.values
    ∷ codes "<text x=\"350\" y=\"52\">heap</text>\n"
    ∷ codes "<text x=\"160\" y=\"-72\" transform=\"rotate(-90)\">nim-value</text>\n"
    ∷ [])
