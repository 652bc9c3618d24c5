use Rattle.std.proofs.Common.{arith, ap, sym, subst}
use Rattle.std.specs.Map.{lookup}
use Rattle.std.specs.BTreeMap as tree
use Rattle.oct_code.specs.Code.{code_cmp}
use Rattle.oct_ops.specs.Operations.{Operations}
use Rattle.oct_record.specs.Index.{AreBeside}
use Rattle.oct_record.proofs.Beside.{beside_nothing, nothing_filled}
use Rattle.oct_record.proofs.record.Record.new.Goals as goal

pub invariant_of-result : goal.invariant_of-result
invariant_of-result g c = record {
  author = (omega arith, omega arith);
  beside =
      subst (λ (s : Operations). AreBeside s (tree.get code_cmp c.new-2.result) c.new-3.result) (sym c.new.ensures)
      (beside_nothing (tree.get code_cmp c.new-2.result) c.new-3.result (λ q. ap (λ es. lookup (tree.is_at (code_cmp q)) es) c.new-2.ensures.empty) c.new-3.ensures);
  filled = nothing_filled (tree.get code_cmp c.new-2.result) (λ q. ap (λ es. lookup (tree.is_at (code_cmp q)) es) c.new-2.ensures.empty);
}

pub returns-then-author-eq0-clause-refused : goal.returns-then-author-eq0-clause-refused
returns-then-author-eq0-clause-refused g c = c.if-author-eq0.true
