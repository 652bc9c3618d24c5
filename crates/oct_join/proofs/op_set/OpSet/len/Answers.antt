use Rattle.std.proofs.Common.{sym, ap, ◌∙◌, length}
use Rattle.std.proofs.lemmas.List.{length-map}
use Rattle.chunked.specs.Chunked.{chunked}
use Rattle.oct_ops.specs.Operations.{listed}
use Rattle.oct_ops.specs.OrderLaws.{op_cmp_total, op_cmp_exact}
use Rattle.oct_ops.specs.SetLaws.{listed-set_of}
use Rattle.oct_join.specs.Shared.{content, contents}
use Rattle.oct_join.proofs.op_set.OpSet.len.Goals as goal

pub returns : goal.returns
returns g c =
    let es = chunked c.self.inside.ops in
    c.len.ensures ∙ sym (length-map es content) ∙ ap length (sym (listed-set_of op_cmp_total op_cmp_exact (contents es) c.self.invariant.1) ∙ ap listed c.self.view_is)
