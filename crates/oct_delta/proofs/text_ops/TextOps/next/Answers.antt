use Rattle.std.proofs.Common.{◌≡◌, suc, ◌-◌, sym, ap, subst, ◌∙◌, arith}
use Rattle.oct_delta.specs.Reading.{Fails, op_at}
use Rattle.oct_delta.specs.OneByOne.{ops_left, IsTextOps}
use Rattle.oct_delta.proofs.OneByOne.{no_fault, none_left, one_is_due, steps}
use Rattle.oct_delta.proofs.text_ops.TextOps.next.Goals as goal

pub returns-then-self-eq0-clause-ok : goal.returns-then-self-eq0-clause-ok
returns-then-self-eq0-clause-ok g c =
    let t = c.self.inside in
    let none = sym c.self.view_is ∙ none_left t.limit t.left t.input c.if-self-eq0.true in
    (none, none)

pub invariant_of-self : goal.invariant_of-self
invariant_of-self g c =
    let t = c.self.inside in
    let more : t.left ≡ suc (t.left - 1) = omega (arith, c.if-self-eq0.false) in
    let read = ap (op_at t.limit) (sym (c.new-ahead.ensures.value ∙ c.rest.ensures.rest)) ∙ c.in-Ok.ensures in
    (steps t.limit (t.left - 1) t.input (subst (λ n. IsTextOps t.limit n t.input) more c.self.invariant) c.in-Ok.op c.op.new.self read).0

pub unreachable-requires : goal.unreachable-requires
unreachable-requires g c =
    let t = c.self.inside in
    let more : t.left ≡ suc (t.left - 1) = omega (arith, c.if-self-eq0.false) in
    let wrong = ap (op_at t.limit) (sym (c.new-ahead.ensures.value ∙ c.rest.ensures.rest)) ∙ subst (λ e. Fails e (op_at t.limit c.new-ahead.result)) c.in-Err-Fault.field-0-is c.in-Err-Fault.ensures in
    no_fault t.limit (t.left - 1) t.input (subst (λ n. IsTextOps t.limit n t.input) more c.self.invariant) _ wrong

pub returns-in-Err-Memory-clause-due : goal.returns-in-Err-Memory-clause-due
returns-in-Err-Memory-clause-due g c =
    let t = c.self.inside in
    let more : t.left ≡ suc (t.left - 1) = omega (arith, c.if-self-eq0.false) in
    λ none. one_is_due t.limit (t.left - 1) t.input (subst (λ n. IsTextOps t.limit n t.input) more c.self.invariant) (ap (λ n. ops_left t.limit n t.input) (sym more) ∙ c.self.view_is ∙ none)

pub returns-in-Ok-clause-ok : goal.returns-in-Ok-clause-ok
returns-in-Ok-clause-ok g c =
    let t = c.self.inside in
    let more : t.left ≡ suc (t.left - 1) = omega (arith, c.if-self-eq0.false) in
    let read = ap (op_at t.limit) (sym (c.new-ahead.ensures.value ∙ c.rest.ensures.rest)) ∙ c.in-Ok.ensures in
    sym c.self.view_is ∙ ap (λ n. ops_left t.limit n t.input) more
    ∙ (steps t.limit (t.left - 1) t.input (subst (λ n. IsTextOps t.limit n t.input) more c.self.invariant) c.in-Ok.op c.op.new.self read).1
