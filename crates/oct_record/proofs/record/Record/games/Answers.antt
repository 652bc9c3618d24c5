use Rattle.std.proofs.Common.{ap, ◌∙◌}
use Rattle.std.specs.BTreeMap as tree
use Rattle.oct_code.specs.Code.{code_cmp}
use Rattle.oct_record.specs.Content.{RecordContent}
use Rattle.oct_record.specs.Index.{index_of}
use Rattle.oct_record.proofs.Beside.{index_is}
use Rattle.oct_record.proofs.record.Record.games.Goals as goal

pub returns : goal.returns
returns g c =
    λ q. index_is c.self.inside.store (tree.get code_cmp c.self.inside.games) c.self.invariant.beside.games c.self.invariant.filled q
    ∙ ap (λ (r : RecordContent). index_of r.ops q) c.self.view_is
