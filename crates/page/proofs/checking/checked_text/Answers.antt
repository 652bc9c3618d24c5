use Rattle.std.proofs.Common.{ap, ◌∙◌, arith, length}
use Rattle.page.specs.Checked.{wrong_lines}
use Rattle.page.proofs.WrongLines.{said_all, said_more, said_right}
use Rattle.page.proofs.checking.checked_text.Goals as goal
use Rattle.page.proofs.checking.checked_text.Goals.{then-wrong-eq0+in_ok-append_right, else-wrong-eq0+then-wrong-gt-SHOWN+in_ok-append_more, else-wrong-eq0+else-wrong-gt-SHOWN}

pub returns : goal.returns
returns g c =
    let claimed = c.args.claimed.now in
    let lines = wrong_lines c.args.values.now.code c.args.start claimed in
    let before = c.new-text.result.items in
    let seen = c.in_ok-wrong.ensures in
    let empty = c.new-text.ensures.items in
    elim c.if-wrong-eq0.branch [
      | then-wrong-eq0+in_ok-append_right w ↦
          ap (λ t. t.items) w.text-is ∙ said_right (length claimed) lines before c.append_wrong.new.text.items w.append_right.new.text.items c.in_ok-wrong.wrong seen empty (omega (arith, w.if-wrong-eq0.true)) w.in_ok-append_right.ensures
      | else-wrong-eq0+then-wrong-gt-SHOWN+in_ok-append_more w ↦
          ap (λ t. t.items) w.text-is
          ∙ said_more (length claimed) lines before c.append_wrong.new.text.items c.in_ok-wrong.wrong seen empty w.append_more.new.text.items (omega (arith, w.if-wrong-gt-SHOWN.true)) w.in_ok-append_more.ensures
      | else-wrong-eq0+else-wrong-gt-SHOWN w ↦
          ap (λ t. t.items) w.text-is
          ∙ said_all (length claimed) lines before c.append_wrong.new.text.items c.in_ok-wrong.wrong seen empty (omega (arith, w.if-wrong-eq0.false)) (omega (arith, w.if-wrong-gt-SHOWN.false))
    ]
