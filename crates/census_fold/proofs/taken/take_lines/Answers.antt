use Rattle.std.proofs.Common.{arith, ◌≡◌, ◌+◌, ◌-◌, ◌<◌, ◌≤◌, length, true, false, not, cond, sym, ap, subst, ◌∙◌}
use Rattle.std.proofs.lemmas.Option.{IfSome_then}
use Rattle.oct_ops.specs.Operations.{set_of, union}
use Rattle.census_fold.specs.Folded.{is_filled, is_refused, taken_of_line, text_of_line}
use Rattle.census_fold.proofs.Taking.{at_most_one_more}
use Rattle.census_fold.proofs.Underway.{IsUnderway, begun, ended, skipped, too_long, went_on}
use Rattle.census_fold.proofs.taken.take_lines.Goals as goal

pub loop-bytes-init : goal.loop-bytes-init
loop-bytes-init g c = record {
  underway = begun (g.B.Read.remaining c.args.input.now) c.new.result c.args.limit c.new.ensures;
  bounded = omega arith;
}

pub returns-then-count-eq0-clause-taken : goal.returns-then-count-eq0-clause-taken
returns-then-count-eq0-clause-taken g c =
    IfSome_then (g.B.Read.remaining c.args.input.now)
    (ended _ (g.B.Read.remaining c.loop-bytes.input) c.next_line.new.line.items c.loop-bytes.intake.held c.loop-bytes.intake.refused c.args.limit c.loop-bytes.left
    c.loop-bytes.invariant.underway c.in_ok-count.ensures.line (omega (arith, c.in_ok-count.ensures.count, c.if-count-eq0.true)))
    (λ x whole. whole.0)

pub returns-then-count-eq0-clause-refused : goal.returns-then-count-eq0-clause-refused
returns-then-count-eq0-clause-refused g c =
    IfSome_then (g.B.Read.remaining c.args.input.now)
    (ended _ (g.B.Read.remaining c.loop-bytes.input) c.next_line.new.line.items c.loop-bytes.intake.held c.loop-bytes.intake.refused c.args.limit c.loop-bytes.left
    c.loop-bytes.invariant.underway c.in_ok-count.ensures.line (omega (arith, c.in_ok-count.ensures.count, c.if-count-eq0.true)))
    (λ x whole. whole.1)

pub returns-then-count-eq0-clause-fits : goal.returns-then-count-eq0-clause-fits
returns-then-count-eq0-clause-fits g c =
    IfSome_then (g.B.Read.remaining c.args.input.now)
    (ended _ (g.B.Read.remaining c.loop-bytes.input) c.next_line.new.line.items c.loop-bytes.intake.held c.loop-bytes.intake.refused c.args.limit c.loop-bytes.left
    c.loop-bytes.invariant.underway c.in_ok-count.ensures.line (omega (arith, c.in_ok-count.ensures.count, c.if-count-eq0.true)))
    (λ x whole. whole.2)

pub returns-then-count-left-clause-too_long : goal.returns-then-count-left-clause-too_long
returns-then-count-left-clause-too_long g c = λ _.
    too_long _ (g.B.Read.remaining c.loop-bytes.input) c.next_line.new.line.items c.loop-bytes.intake.held c.loop-bytes.intake.refused c.args.limit c.loop-bytes.left
    c.loop-bytes.invariant.underway c.in_ok-count.ensures.line (omega (arith, c.in_ok-count.ensures.count, c.if-count-left.true))

pub loop-bytes-preserved-in-Continue-branch-2 : goal.loop-bytes-preserved-in-Continue-branch-2
loop-bytes-preserved-in-Continue-branch-2 g c =
    let line = c.next_line.new.line.items in
    let text = c.text_of_line-text.ensures ∙ ap text_of_line c.deref.ensures.value in
    let filled : is_filled (text_of_line line) ≡ true = ap is_filled (sym text) ∙ ap not (sym c.is_empty.ensures ∙ c.if-not-is_empty.true) in
    let count : c.in_ok-count.count ≡ length line = omega (arith, c.in_ok-count.ensures.count) in
    let some : 0 < length line = omega (arith, count, c.if-count-eq0.false) in
    let fits : length line ≤ c.loop-bytes.left = omega (arith, count, c.if-count-left.false) in
    let once = at_most_one_more (is_refused c.text_of_line-text.result.now) c.loop-bytes.intake.refused c.take_line.new.intake.refused c.in_ok-take_line.ensures.counted in
    record {
      underway =
          subst (λ n. IsUnderway (g.B.Read.remaining c.args.input.now) (g.B.Read.remaining c.next_line.new.input) c.take_line.new.intake.held c.take_line.new.intake.refused c.args.limit (c.loop-bytes.left - n))
          (sym count)
          (went_on _ (g.B.Read.remaining c.loop-bytes.input) _ line c.loop-bytes.intake.held _ c.loop-bytes.intake.refused _ c.args.limit c.loop-bytes.left
          c.loop-bytes.invariant.underway c.in_ok-count.ensures.line c.in_ok-count.ensures.rest some fits filled
          (c.in_ok-take_line.ensures.taken ∙ ap (λ t. union c.loop-bytes.intake.held (set_of (taken_of_line t))) text)
          (c.in_ok-take_line.ensures.counted ∙ ap (λ t. cond (is_refused t) (c.loop-bytes.intake.refused + 1) c.loop-bytes.intake.refused) text));
      bounded = omega (arith, once, some, fits, count, c.loop-bytes.invariant.bounded);
    }

pub loop-bytes-preserved : goal.loop-bytes-preserved
loop-bytes-preserved g c =
    let line = c.next_line.new.line.items in
    let text = c.text_of_line-text.ensures ∙ ap text_of_line c.deref.ensures.value in
    let unfilled : is_filled (text_of_line line) ≡ false = ap is_filled (sym text) ∙ ap not (sym c.is_empty.ensures ∙ c.if-not-is_empty.false) in
    let count : c.in_ok-count.count ≡ length line = omega (arith, c.in_ok-count.ensures.count) in
    let some : 0 < length line = omega (arith, count, c.if-count-eq0.false) in
    let fits : length line ≤ c.loop-bytes.left = omega (arith, count, c.if-count-left.false) in
    record {
      underway =
          subst (λ n. IsUnderway (g.B.Read.remaining c.args.input.now) (g.B.Read.remaining c.next_line.new.input) c.loop-bytes.intake.held c.loop-bytes.intake.refused c.args.limit (c.loop-bytes.left - n))
          (sym count)
          (skipped _ (g.B.Read.remaining c.loop-bytes.input) _ line c.loop-bytes.intake.held c.loop-bytes.intake.refused c.args.limit c.loop-bytes.left
          c.loop-bytes.invariant.underway c.in_ok-count.ensures.line c.in_ok-count.ensures.rest some fits unfilled);
      bounded = omega (arith, c.loop-bytes.invariant.bounded);
    }
