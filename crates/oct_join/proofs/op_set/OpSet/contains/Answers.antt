use Rattle.std.proofs.Common.{ap, ◌∙◌}
use Rattle.chunked.specs.Chunked.{chunked, index_of}
use Rattle.oct_ops.specs.Operations as set
use Rattle.oct_ops.specs.OrderLaws.{op_cmp_total, op_cmp_exact}
use Rattle.oct_join.specs.Shared.{content, contents}
use Rattle.oct_join.proofs.Searching.{contains_found, contains_missing, is_found, parted}
use Rattle.oct_join.proofs.op_set.OpSet.contains.Goals as goal

pub search-requires-clause-parted : goal.search-requires-clause-parted
search-requires-clause-parted g c = parted content op_cmp_total op_cmp_exact (chunked c.self.inside.ops) c.args.op.now c.self.invariant.1

pub returns : goal.returns
returns g c =
    let ops = c.self.inside.ops in
    let x = c.args.op.now in
    let rising = c.self.invariant.1 in
    c.is_ok.ensures.value
    ∙ is_found c.search.result (set.contains (set.set_of (contents (chunked ops))) x)
    (λ p h. contains_found content op_cmp_total op_cmp_exact (chunked ops) x rising (index_of ops p) h.1)
    (λ p h. contains_missing content op_cmp_total op_cmp_exact (chunked ops) x rising (index_of ops p) h.1) c.search.ensures
    ∙ ap (λ s. set.contains s x) c.self.view_is
