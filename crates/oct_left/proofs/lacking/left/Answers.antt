use Rattle.std.proofs.Common.{not, ap, ◌∙◌, sym, rules}
use Rattle.oct_left.specs.Covered.{is_covered}
use Rattle.oct_left.proofs.Covering.{passed_over, taken}
use Rattle.oct_left.proofs.lacking.left.Goals as goal

pub loop-code-preserved-then-branch : goal.loop-code-preserved-then-branch
loop-code-preserved-then-branch g c =
    passed_over (λ code. not (is_covered c.args.said.now.ops code c.args.count)) c.args.codes.now c.loop-code.code-index c.code-item.result c.loop-code.lacking.items c.loop-code-test.true c.code-item.is
    (ap not (sym c.in_ok-is_covered.ensures ∙ c.if-branch.true))
    ∙ c.loop-code.invariant

pub loop-code-preserved : goal.loop-code-preserved
loop-code-preserved g c =
    taken (λ code. not (is_covered c.args.said.now.ops code c.args.count)) c.args.codes.now c.loop-code.code-index c.code-item.result c.loop-code.lacking.items c.push.new.self.items c.loop-code-test.true c.code-item.is
    (ap not (sym c.in_ok-is_covered.ensures ∙ c.if-branch.false))
    (search rules)
    ∙ c.loop-code.invariant
