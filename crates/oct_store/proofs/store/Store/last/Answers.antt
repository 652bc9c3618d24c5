use Rattle.std.proofs.Common.{ap, ◌∙◌}
use Rattle.oct_ops.specs.Operations.{listed}
use Rattle.oct_store.specs.Summary.{last}
use Rattle.oct_store.proofs.Greatest.{last_is}
use Rattle.oct_store.proofs.store.Store.last.Goals as goal

pub returns : goal.returns
returns g c = last_is (listed c.self.inside.ops) c.args.author c.last.result c.last.ensures.above c.last.ensures.is ∙ ap (λ s. last (listed s) c.args.author) c.self.view_is
