use Rattle.std.proofs.Common.{sym, ap, ◌∙◌, arith}
use Rattle.std.proofs.lemmas.List.{drop_all}
use Rattle.oct_left.proofs.Sweep.{below_swept, none_at_swept, stops, swept, swept_from}
use Rattle.oct_left.proofs.span.first_missing.Goals as goal

pub returns-then-missing-span-clause-below : goal.returns-then-missing-span-clause-below
returns-then-missing-span-clause-below c =
    let is = sym c.loop-span.invariant ∙ stops c.args.spans.now c.loop-span.span-index c.loop-span.missing _ c.loop-span-test.true c.if-missing-span.true in
    λ heap from below. below_swept c.args.spans.now 1 heap from (omega (arith, is, below))

pub returns-then-missing-span-clause-missing : goal.returns-then-missing-span-clause-missing
returns-then-missing-span-clause-missing c =
    none_at_swept c.args.spans.now 1 c.loop-span.missing c.requires.sorted
    (sym (stops c.args.spans.now c.loop-span.span-index c.loop-span.missing _ c.loop-span-test.true c.if-missing-span.true) ∙ c.loop-span.invariant)

pub returns-clause-below : goal.returns-clause-below
returns-clause-below c =
    let is = ap (swept c.loop-span.missing) (sym (drop_all c.loop-span.span-index c.args.spans.now c.loop-span-test.false)) ∙ c.loop-span.invariant in
    λ heap from below. below_swept c.args.spans.now 1 heap from (omega (arith, is, below))

pub returns-clause-missing : goal.returns-clause-missing
returns-clause-missing c =
    none_at_swept c.args.spans.now 1 c.loop-span.missing c.requires.sorted
    (ap (swept c.loop-span.missing) (sym (drop_all c.loop-span.span-index c.args.spans.now c.loop-span-test.false)) ∙ c.loop-span.invariant)

pub returns-then-missing-span-clause-some : goal.returns-then-missing-span-clause-some
returns-then-missing-span-clause-some c =
    let is = sym c.loop-span.invariant ∙ stops c.args.spans.now c.loop-span.span-index c.loop-span.missing _ c.loop-span-test.true c.if-missing-span.true in
    omega (arith, is, swept_from c.args.spans.now 1)

pub returns-clause-some : goal.returns-clause-some
returns-clause-some c =
    let is = ap (swept c.loop-span.missing) (sym (drop_all c.loop-span.span-index c.args.spans.now c.loop-span-test.false)) ∙ c.loop-span.invariant in
    omega (arith, is, swept_from c.args.spans.now 1)
