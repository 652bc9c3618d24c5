use Rattle.std.proofs.Common.{◌+◌, ◌++◌, ◌∷◌, ◌<◌, length, get_or, refl, sym, ap, ◌∙◌, arith}
use Rattle.oct_mex.specs.NimValues.{nim_value}
use Rattle.page.specs.Checked.{line_of, wrong_lines}
use Rattle.page.proofs.WrongLines.{right_there, seen_as, seen_counted, seen_same, seen_shown, wrong_from, wrong_there}
use Rattle.page.proofs.checking.append_wrong.Goals as goal
use Rattle.page.proofs.checking.append_wrong.Goals.{then-claimed-right, then-wrong-lt-SHOWN+in_ok-append_line, else-wrong-lt-SHOWN, else-claimed-right}

pub loop-index-preserved : goal.loop-index-preserved
loop-index-preserved g c =
    let code = c.args.values.now.code in
    let start = c.args.start in
    let claimed = c.args.claimed.now in
    let i = c.loop-index.index in
    let heap = start + i in
    let v = get_or claimed i 0 in
    let within : i < length claimed = omega arith in
    let held = c.loop-index.invariant in
    let value = c.in-Some.ensures.value.1 in
    let all = wrong_lines code start claimed in
    let next = wrong_from code start claimed (i + 1) in
    let line = line_of heap v (nim_value code heap) in
    let old = c.args.text.now.items in
    let text = c.loop-index.text.items in
    let count = c.loop-index.wrong in
    elim c.if-claimed-right.branch [
      | then-claimed-right w ↦
          let there = seen_same all (wrong_from code start claimed i) (line ∷ next) old text count (wrong_there code start claimed i v within refl (λ e. w.if-claimed-right.true (e ∙ sym value))) held.seen in
          elim w.if-wrong-lt-SHOWN.branch [
            | then-wrong-lt-SHOWN+in_ok-append_line u ↦
                let grown = u.in_ok-append_line.ensures ∙ ap (λ r. text ++ line_of heap v r) value in
                record {
                  few = omega (arith, w.wrong-is, held.few);
                  seen =
                      seen_as all next old u.append_line.new.text.items c.if-claimed-right.text.items (count + 1) c.if-claimed-right.wrong (ap (λ t. t.items) w.text-is ∙ ap (λ t. t.items) u.text-is) w.wrong-is
                      (seen_shown all next line old text count there u.append_line.new.text.items (omega (arith, u.if-wrong-lt-SHOWN.true)) grown);
                }
            | else-wrong-lt-SHOWN u ↦
                record {
                  few = omega (arith, w.wrong-is, held.few);
                  seen =
                      seen_as all next old text c.if-claimed-right.text.items (count + 1) c.if-claimed-right.wrong (ap (λ t. t.items) w.text-is ∙ ap (λ t. t.items) u.text-is) w.wrong-is
                      (seen_counted all next line old text count there (omega (arith, u.if-wrong-lt-SHOWN.false)));
                }
          ]
      | else-claimed-right w ↦
          record {
            few = omega (arith, w.wrong-is, held.few);
            seen =
                seen_as all next old text c.if-claimed-right.text.items count c.if-claimed-right.wrong (ap (λ t. t.items) w.text-is) w.wrong-is
                (seen_same all (wrong_from code start claimed i) next old text count (right_there code start claimed i v within refl (w.if-claimed-right.false ∙ value)) held.seen);
          }
    ]
