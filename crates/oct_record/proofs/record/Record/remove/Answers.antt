use Rattle.std.proofs.Common.{sym, subst}
use Rattle.std.specs.BTreeMap as tree
use Rattle.oct_code.specs.Code.{code_cmp}
use Rattle.oct_ops.specs.Operations.{Operations}
use Rattle.oct_record.specs.Index.{AreBeside}
use Rattle.oct_record.proofs.Beside.{beside_less}
use Rattle.oct_record.proofs.record.Record.remove.Goals as goal

pub invariant_of-self : goal.invariant_of-self
invariant_of-self g c = record {
  author = c.self.invariant.author;
  beside =
      subst (λ (s : Operations). AreBeside s (tree.get code_cmp c.unfile.new.games) c.unfile.new.notes) (sym c.remove.ensures.gone)
      (beside_less c.self.inside.store (tree.get code_cmp c.self.inside.games) (tree.get code_cmp c.unfile.new.games) c.self.inside.notes c.unfile.new.notes c.args.op.now c.self.invariant.beside c.unfile.ensures.games c.unfile.ensures.notes);
  filled = c.unfile.ensures.filled c.self.invariant.filled;
}
