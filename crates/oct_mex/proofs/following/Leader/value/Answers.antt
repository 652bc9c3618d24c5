use Rattle.std.proofs.Common.{ap, arith, slice_index_or, vec_len, ◌∙◌}
use Rattle.oct_mex.specs.Following.{Leading}
use Rattle.oct_mex.specs.NimValues.{nim_value}
use Rattle.oct_mex.proofs.ListReads.{read_at}
use Rattle.oct_mex.proofs.following.Leader.value.Goals as goal

pub returns : goal.returns
returns g c =
    let l = c.self.inside in
    c.from.ensures ∙ c.index.ensures ∙ ap (λ xs. slice_index_or xs c.args.heap c.index.result.now) c.self.invariant
    ∙ read_at l.code (vec_len l.values) c.args.heap c.index.result.now (omega (arith, c.requires, ap (λ (k : Leading). k.len) c.self.view_is))
    ∙ ap (λ (k : Leading). nim_value k.code c.args.heap) c.self.view_is
