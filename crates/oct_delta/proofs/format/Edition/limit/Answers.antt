use Rattle.std.proofs.Common.{sym, ap}
use Rattle.oct_delta.specs.Formats.{format}
use Rattle.oct_delta.proofs.format.Edition.limit.Goals as goal

pub returns-in-First-clause-value : goal.returns-in-First-clause-value
returns-in-First-clause-value c = sym (ap (λ e. (format e).limit) c.in-First.is)

pub returns-in-Second-clause-value : goal.returns-in-Second-clause-value
returns-in-Second-clause-value c = sym (ap (λ e. (format e).limit) c.in-Second.is)
