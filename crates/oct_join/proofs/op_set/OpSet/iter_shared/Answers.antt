use Rattle.std.proofs.Common.{sym, ap, ◌∙◌}
use Rattle.chunked.specs.Chunked.{chunked}
use Rattle.oct_ops.specs.Operations.{listed}
use Rattle.oct_ops.specs.OrderLaws.{op_cmp_total, op_cmp_exact}
use Rattle.oct_ops.specs.SetLaws.{listed-set_of}
use Rattle.oct_join.specs.Shared.{contents}
use Rattle.oct_join.proofs.op_set.OpSet.iter_shared.Goals as goal

pub returns : goal.returns
returns g c =
    c.new.ensures ∙ ap contents c.iter-shared.ensures
    ∙ sym (listed-set_of op_cmp_total op_cmp_exact (contents (chunked c.self.inside.ops)) c.self.invariant.1) ∙ ap listed c.self.view_is
