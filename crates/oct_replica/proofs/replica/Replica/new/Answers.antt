use Rattle.std.proofs.Common.{ap, sym, subst}
use Rattle.std.specs.Map.{lookup}
use Rattle.std.specs.BTreeMap as tree
use Rattle.oct_code.specs.Code.{code_cmp}
use Rattle.oct_record.specs.Content.{RecordContent}
use Rattle.oct_replica.specs.Beside.{AreBeside}
use Rattle.oct_replica.proofs.Beside.{beside_nothing}
use Rattle.oct_replica.proofs.replica.Replica.new.Goals as goal

pub invariant_of-result : goal.invariant_of-result
invariant_of-result g c =
    subst (λ (r : RecordContent). AreBeside r.ops (tree.get code_cmp c.new-2.result)) (sym c.in_ok-said.ensures.ok)
    (beside_nothing (tree.get code_cmp c.new-2.result) (λ q. ap (λ es. lookup (tree.is_at (code_cmp q)) es) c.new-2.ensures.empty))
