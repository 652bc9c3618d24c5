use Rattle.std.proofs.Common.{ap, subst, sym, ◌∙◌}
use Rattle.oct_ops.specs.Body.{Body, Operation}
use Rattle.oct_ops.specs.Valid.{IsOp}
use Rattle.oct_ops.proofs.op.Op.copy.Goals as goal

pub invariant_of-result : goal.invariant_of-result
invariant_of-result g c =
    let under : Body → Operation = λ body. record { dot = c.self.inside.dot; body = body } in
    subst IsOp (ap under (sym c.in_ok-copy.ensures)) c.self.invariant

pub returns : goal.returns
returns g c =
    let under : Body → Operation = λ body. record { dot = c.self.inside.dot; body = body } in
    ap under c.in_ok-copy.ensures ∙ c.self.view_is
