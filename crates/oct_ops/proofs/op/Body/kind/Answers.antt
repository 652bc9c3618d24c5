use Rattle.std.proofs.Common.{ap, sym}
use Rattle.oct_ops.specs.Order.{kind_of}
use Rattle.oct_ops.specs.Views.{content}
use Rattle.oct_ops.proofs.op.Body.kind.Goals as goal

pub returns-in-Note : goal.returns-in-Note
returns-in-Note g c = sym (ap (λ body. kind_of (content body)) c.in-Note.is)
