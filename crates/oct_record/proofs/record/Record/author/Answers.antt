use Rattle.std.proofs.Common.{arith, ap}
use Rattle.std.proofs.lemmas.Grind.{common_steps}
use Rattle.oct_record.specs.Content.{RecordContent}
use Rattle.oct_record.proofs.record.Record.author.Goals as goal

pub returns-clause-value : goal.returns-clause-value
returns-clause-value g c = ap (λ (r : RecordContent). r.author) c.self.view_is

pub returns-clause-valid : goal.returns-clause-valid
returns-clause-valid g c = grind (arith, common_steps)
