-- The plot of a game's known nim-values, as an SVG picture.
use Rattle.std.specs.Prelude.{ℕ, ◌+◌, ◌-◌, ◌*◌, Bool, ◌==◌, ◌&&◌, nat_le, nat_lt, if◌then◌else◌, List, [], ◌∷◌, ◌++◌, codes, length, take, drop, min, Option, Some, None}
use Rattle.std.specs.List.{concat}
use Rattle.std.specs.Fmt.{decimal}
use Rattle.oct_code.specs.Code.{Code}
use Rattle.oct_code.specs.CodeText.{code_text}
use Rattle.oct_ops.specs.Operation.{Period}
use Rattle.oct_text.specs.Words.{Text}
use Rattle.oct_plot.specs.Axes.{axes, width}
use Rattle.oct_plot.specs.Points.{frame_of, points_of, scaled}
use Rattle.oct_plot.specs.Style.{plot_style}
use Rattle.oct_plot.specs.Sentence.{sentence}
use Rattle.oct_plot.specs.declared.points.Frame.{Frame}
use Rattle.oct_plot.specs.declared.points.Point.{Point}

-- ---- what stands before the drawing

-- the period and its start, where one is proved, after a text that leads to them
abbrev pub proved_text : Text → Option Period → Text
proved_text lead None = []
proved_text lead (Some p) = concat (lead ∷ decimal p.period ∷ codes " from " ∷ decimal p.start ∷ [])

-- so many heaps from the first one on
abbrev pub heaps_title : Code → ℕ → ℕ → Text
heaps_title c first count = concat (code_text c ∷ codes ": nim-values of heaps " ∷ decimal first ∷ codes " to " ∷ decimal (first + (count - 1)) ∷ [])

-- the game, the heaps whose values are shown, and the period, where one is proved
abbrev pub title_from : Code → ℕ → ℕ → Option Period → Text
title_from c first count proved = concat (heaps_title c first count ∷ proved_text (codes ", period ") proved ∷ [])

-- that of the heaps from 0 on
abbrev pub title : Code → ℕ → Option Period → Text
title c count proved = title_from c 0 count proved

-- the frame with its title and what is proved, the style, and the title as it is drawn
abbrev pub head : Code → Text → Text → Text → Text
head c named told style = concat (
    codes "<svg xmlns=\"http://www.w3.org/2000/svg\" class=\"plot\" viewBox=\"0 0 840 430\" role=\"img\" aria-labelledby=\"plot-" ∷ code_text c
    ∷ codes "\" aria-describedby=\"told-" ∷ code_text c
    ∷ codes "\"><title id=\"plot-" ∷ code_text c ∷ codes "\">" ∷ named ∷ codes "</title>\n<desc id=\"told-" ∷ code_text c ∷ codes "\">" ∷ told
    ∷ codes "</desc>\n<style>" ∷ style ∷ codes "</style>\n<g transform=\"translate(100 362)\">\n<text class=\"title\" x=\"0\" y=\"-340\">" ∷ named
    ∷ codes "</text>\n" ∷ [])

-- ---- the drawing

-- how far to the right a heap stands, at least as far as the first one that is shown and at most as far as the last
abbrev pub right_of : Frame → ℕ → ℕ
right_of frame heap = scaled (min (heap - frame.first) frame.heaps) frame.heaps width

-- a shade from a place to another, of the first run of a period or of the second
abbrev pub shade : Text → ℕ → ℕ → Text
shade run from to = concat (
    codes "<rect class=\"" ∷ run ∷ codes "\" x=\"" ∷ decimal from ∷ codes "\" y=\"-320\" width=\"" ∷ decimal (to - from)
    ∷ codes "\" height=\"320\"/>\n" ∷ [])

-- a part of the heap axis lies between the two heaps
abbrev pub is_seen : Frame → ℕ → ℕ → Bool
is_seen frame from to = nat_lt frame.first to && nat_lt from (frame.first + frame.heaps)

-- a run from a heap up to another, shaded where it is seen
abbrev pub run_text : Frame → Text → ℕ → ℕ → Text
run_text frame run from to = if is_seen frame from to then shade run (right_of frame from) (right_of frame to) else []

-- a line so far to the right
abbrev pub start_line : ℕ → Text
start_line right = concat (codes "<path class=\"start\" d=\"M" ∷ decimal right ∷ codes " 0V-320\"/>\n" ∷ [])

-- the line at the heap where the period begins, where it stands on the axis
abbrev pub start_text : Frame → ℕ → Text
start_text frame heap = if nat_le frame.first heap && nat_le heap (frame.first + frame.heaps) then start_line (right_of frame heap) else []

-- the heaps of the first run of a period and of the second, shaded, and the line where the first begins
abbrev pub runs_text : Frame → Period → Text
runs_text frame p = concat (
    run_text frame (codes "period") p.start (p.start + p.period)
    ∷ run_text frame (codes "again") (p.start + p.period) (p.start + 2 * p.period)
    ∷ start_text frame p.start
    ∷ [])

-- those of the period that is proved
abbrev pub period_text : Frame → Option Period → Text
period_text frame None = []
period_text frame (Some p) = runs_text frame p

-- the way to the first point of a row
abbrev pub row_begin : Point → Text
row_begin p = concat (codes "M" ∷ decimal p.column ∷ codes " " ∷ decimal p.row ∷ [])

-- the way to a point from the one before it, which in a row is as far as the columns are apart
abbrev pub way_from : Point → Point → Text
way_from q p = if q.row == p.row then concat (codes "h" ∷ decimal (p.column - q.column) ∷ []) else row_begin p

abbrev pub way_text : Option Point → Point → Text
way_text None p = row_begin p
way_text (Some q) p = way_from q p

-- the way through the points
abbrev pub ways_text : Option Point → List Point → Text
ways_text before [] = []
ways_text before (p ∷ ps) = way_text before p ++ ways_text (Some p) ps

-- points are larger where there are fewer than 500 values
abbrev pub points_kind : ℕ → Text
points_kind known = if nat_lt known 500 then codes "points few" else codes "points"

-- a dot, and the head of the path that has one at each of its points
abbrev pub points_head : Code → Text → Text
points_head c kind = concat (
    codes "<marker id=\"dot-" ∷ code_text c ∷ codes "\" class=\"dot\" overflow=\"visible\"><circle r=\".5\"/></marker>\n<path class=\"" ∷ kind
    ∷ codes "\" style=\"marker:url(#dot-" ∷ code_text c ∷ codes ")\" transform=\"scale(.5 -.5)\" d=\"" ∷ [])

abbrev pub points_text : Code → Text → List Point → Text
points_text c kind ps = concat (points_head c kind ∷ ways_text None ps ∷ codes "\"/>\n" ∷ [])

-- a plot with this style and these words, of the values from the first heap on
abbrev pub plot_from : Text → Text → Code → ℕ → List ℕ → Option Period → Text
plot_from style told c first values proved = concat (
    head c (title_from c first (length values) proved) told style
    ∷ period_text (frame_of first values) proved
    ∷ axes (frame_of first values)
    ∷ points_text c (points_kind (length values)) (points_of first values)
    ∷ codes "</g></svg>\n"
    ∷ [])

-- that of the values from heap 0 on
abbrev pub plot_with : Text → Code → List ℕ → Option Period → Text
plot_with style c values proved = plot_from style (sentence values proved) c 0 values proved

-- ---- a picture that is a file of its own

-- the values that it has where nobody asks for others: those up to the end of the second run, where a period is proved, and else all
abbrev pub pictured : List ℕ → Option Period → List ℕ
pictured values None = values
pictured values (Some p) = take (p.start + 2 * p.period) values

abbrev pub plot : Code → List ℕ → Option Period → Text
plot c values proved = plot_with plot_style c (pictured values proved) proved

-- the values of the heaps from one to another, both among them
abbrev pub between : ℕ → ℕ → List ℕ → List ℕ
between from to values = take (to + 1 - from) (drop from values)

-- the picture of these heaps, of all that are known
abbrev pub between_with : Text → Code → List ℕ → ℕ → ℕ → Option Period → Text
between_with style c values from to proved = plot_from style (sentence values proved) c from (between from to values) proved

abbrev pub plot_between : Code → List ℕ → ℕ → ℕ → Option Period → Text
plot_between c values from to proved = between_with plot_style c values from to proved
