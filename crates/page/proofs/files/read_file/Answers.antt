use Rattle.std.proofs.Common.{arith, ◌≤◌, cond, length, Result, Ok, Err, OnOk, sym, ap, ◌∙◌}
use Rattle.std.proofs.lemmas.Result.{IfErr-weaker, IfOk-weaker, on_ok_weaker}
use Rattle.census_fold.specs.Folded.{refused}
use Rattle.census_state.specs.declared.input.TheConstants.{INPUT_LIMIT}
use Rattle.page.proofs.HeldFiles.{held_lines, held_tagged}
use Rattle.page.proofs.files.read_file.Goals as goal

on_ok : {X Y P : Type 0} (r : Result X Y) → P → OnOk r P
on_ok (Ok x) p = p
on_ok (Err e) p = tt

pub returns-then-is_tagged-clause-ok : goal.returns-then-is_tagged-clause-ok
returns-then-is_tagged-clause-ok g c =
    let fits : length c.args.file.now ≤ INPUT_LIMIT = omega (arith, c.if-file-gt-INPUT_LIMIT.false) in
    IfOk-weaker c.read_tagged.result _ _ (λ said done. held_tagged c.args.file.now fits (sym c.is_tagged.ensures ∙ c.if-is_tagged.true) ∙ done) c.read_tagged.ensures.ok

pub returns-then-is_tagged-clause-err : goal.returns-then-is_tagged-clause-err
returns-then-is_tagged-clause-err g c =
    let fits : length c.args.file.now ≤ INPUT_LIMIT = omega (arith, c.if-file-gt-INPUT_LIMIT.false) in
    IfErr-weaker c.read_tagged.result _ _ (λ e done other. held_tagged c.args.file.now fits (sym c.is_tagged.ensures ∙ c.if-is_tagged.true) ∙ done other) c.read_tagged.ensures.err

pub returns-then-is_tagged-clause-refused : goal.returns-then-is_tagged-clause-refused
returns-then-is_tagged-clause-refused g c = on_ok c.read_tagged.result (sym (ap (λ b. cond b 0 (refused c.args.file.now)) (sym c.is_tagged.ensures ∙ c.if-is_tagged.true)))

pub returns-clause-ok : goal.returns-clause-ok
returns-clause-ok g c =
    let fits : length c.args.file.now ≤ INPUT_LIMIT = omega (arith, c.if-file-gt-INPUT_LIMIT.false) in
    IfOk-weaker c.read_lines.result _ _ (λ said is. held_lines c.args.file.now fits (sym c.is_tagged.ensures ∙ c.if-is_tagged.false) ∙ ap Ok (sym is)) c.read_lines.ensures.ops

pub returns-clause-err : goal.returns-clause-err
returns-clause-err g c = IfErr-weaker c.read_lines.result _ _ (λ e is other. absurd (other is)) c.read_lines.ensures.err

pub returns-clause-refused : goal.returns-clause-refused
returns-clause-refused g c =
    on_ok_weaker c.read_lines.result (λ is. is ∙ sym (ap (λ b. cond b 0 (refused c.args.file.now)) (sym c.is_tagged.ensures ∙ c.if-is_tagged.false))) c.read_lines.ensures.refused
