use Rattle.std.proofs.Common.{ap, ◌∙◌, length}
use Rattle.oct_ops.specs.Operations.{listed}
use Rattle.oct_record.specs.Content.{RecordContent}
use Rattle.oct_record.proofs.record.Record.len.Goals as goal

pub returns : goal.returns
returns g c = c.len.ensures ∙ ap (λ (r : RecordContent). length (listed r.ops)) c.self.view_is
