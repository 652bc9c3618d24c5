use Rattle.std.proofs.Common.{◌≡◌, ◌∙◌, arith, drop, take, length, ◌-◌, sym}
use Rattle.census_table.specs.Table.{measured_at}
use Rattle.census_table.proofs.Steps.{kept_at, measured_on, noted_at, rest_at}
use Rattle.census_table.proofs.table.measured.Goals as goal
use Rattle.census_table.proofs.table.measured.Goals.{then-begins+in_ok-note_width, else-begins}

pub loop-i-preserved : goal.loop-i-preserved
loop-i-preserved c =
    let lines = c.args.lines.now in
    let rest = take (length lines - c.loop-i.i) (drop c.loop-i.i lines) in
    let widths : c.if-begins.widths.items ≡ measured_at c.loop-i.widths.items c.loop-i.place rest =
    elim c.if-begins.branch [
      | then-begins+in_ok-note_width w ↦
          let made = w.in_ok-note_width.ensures in let kept = w.widths-is in
          let at = noted_at c.loop-i.widths.items c.loop-i.place rest (sym c.begins.ensures ∙ w.if-begins.true) in cc
      | else-begins w ↦
          let kept = w.widths-is in
          let at = kept_at c.loop-i.widths.items c.loop-i.place rest (sym c.begins.ensures ∙ w.if-begins.false) in cc
    ] in
    record {
      same = measured_on _ _ _ _ _ _ _ _ c.loop-i-test.true (rest_at _ c.loop-i.i) widths c.behind-place.ensures.is c.loop-i.invariant.same;
      column = omega arith;
      width = omega arith;
    }
