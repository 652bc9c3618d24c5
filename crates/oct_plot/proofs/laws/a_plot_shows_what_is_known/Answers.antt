use Rattle.std.proofs.Common.{arith, ◌≡◌, ℕ, List, map, sym, ap, ◌∙◌}
use Rattle.std.specs.List.{list_any}
use Rattle.std.specs.Cmp.{IsTotalOrder, then_total, on_total, nat_cmp_total}
use Rattle.std.specs.FinSet.{IsAntisymmetric, nat_cmp-IsAntisymmetric}
use Rattle.std.specs.Ordering.{eq_by_cmp, nat_cmp}
use Rattle.oct_code.specs.CodeOrder.{both_tie}
use Rattle.oct_ops.specs.Sets.{rises, set_of}
use Rattle.oct_ops.specs.SetLaws.{listed-arranged, listed-rises}
use Rattle.oct_text.proofs.Members.{any-listed, any-map}
use Rattle.oct_plot.proofs.Between.{found_between}
use Rattle.oct_plot.specs.Plot.{between}
use Rattle.oct_plot.specs.PlotLaws.{is_drawn, is_known}
use Rattle.oct_plot.specs.Points.{frame_of, heaps_of, point_at, point_cmp}
use Rattle.oct_plot.specs.declared.points.Point.{Point}
use Rattle.oct_plot.proofs.laws.a_plot_shows_what_is_known.Goals as goal

point_cmp_total : IsTotalOrder point_cmp
point_cmp_total = then_total (on_total (λ p. p.row) nat_cmp_total) (on_total (λ p. p.column) nat_cmp_total)

point_cmp_exact : IsAntisymmetric point_cmp
point_cmp_exact p q tie =
    let parts = both_tie (nat_cmp p.row q.row) _ tie in
    λ i. record { row = nat_cmp-IsAntisymmetric p.row q.row parts.0 i; column = nat_cmp-IsAntisymmetric p.column q.column parts.1 i }

-- the points of the heaps, not yet in order
abbrev fallen : ℕ → List ℕ → List Point
fallen first values = map (point_at (frame_of first values)) (heaps_of first values)

drawn_known : (first : ℕ) (values : List ℕ) (p : Point) → is_drawn first values p ≡ is_known first values p
drawn_known first values p =
    ap (list_any (eq_by_cmp point_cmp p)) (sym (listed-arranged point_cmp_total point_cmp_exact (fallen first values)))
    ∙ any-listed point_cmp_total point_cmp_exact (eq_by_cmp point_cmp p) (fallen first values)
    ∙ any-map (eq_by_cmp point_cmp p) (point_at (frame_of first values)) (heaps_of first values)

pub returns-clause-known : goal.returns-clause-known
returns-clause-known c = drawn_known

pub returns-clause-asked : goal.returns-clause-asked
returns-clause-asked c from to values p =
    drawn_known from (between from to values) p
    ∙ sym (found_between (λ h. eq_by_cmp point_cmp p (point_at (frame_of from (between from to values)) h)) from to from 0 values (omega arith))

pub returns-clause-once : goal.returns-clause-once
returns-clause-once c first values =
    ap (rises point_cmp) (sym (listed-arranged point_cmp_total point_cmp_exact (fallen first values))) ∙ listed-rises point_cmp (set_of (fallen first values))
