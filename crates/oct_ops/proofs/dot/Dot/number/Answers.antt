use Rattle.std.proofs.Common.{ap}
use Rattle.oct_ops.proofs.dot.Dot.number.Goals as goal

pub returns-clause-value : goal.returns-clause-value
returns-clause-value c = ap (λ x. x.number) c.self.view_is
