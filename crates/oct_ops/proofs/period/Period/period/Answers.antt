use Rattle.std.proofs.Common.{ap}
use Rattle.oct_ops.proofs.period.Period.period.Goals as goal

pub returns-clause-value : goal.returns-clause-value
returns-clause-value c = ap (λ x. x.period) c.self.view_is
