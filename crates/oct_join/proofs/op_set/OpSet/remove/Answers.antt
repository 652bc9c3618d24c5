use Rattle.std.proofs.Common.{sym, ap, ◌∙◌}
use Rattle.chunked.specs.Chunked.{chunked, index_of}
use Rattle.oct_ops.specs.Operations as set
use Rattle.oct_ops.specs.Order.{op_cmp}
use Rattle.oct_ops.specs.OrderLaws.{op_cmp_total, op_cmp_exact}
use Rattle.oct_ops.specs.Sets.{rises}
use Rattle.oct_join.specs.Shared.{content, contents}
use Rattle.oct_join.proofs.Searching.{contains_found, contains_missing, parted, remove_missing, rises_removed, set_removed}
use Rattle.oct_join.proofs.op_set.OpSet.remove.Goals as goal

pub search-requires-clause-parted : goal.search-requires-clause-parted
search-requires-clause-parted g c = parted content op_cmp_total op_cmp_exact (chunked c.self.inside.ops) c.args.op.now c.self.invariant.1

pub invariant_of-self : goal.invariant_of-self
invariant_of-self g c =
    let ops = c.self.inside.ops in
    (c.remove.ensures.chunked, ap (λ es. rises op_cmp (contents es)) c.remove.ensures.items ∙ rises_removed content op_cmp_total op_cmp_exact (chunked ops) c.args.op.now (index_of ops c.in-Ok.place) c.self.invariant.1 c.in-Ok.ensures.1)

pub returns-in-Ok-clause-was : goal.returns-in-Ok-clause-was
returns-in-Ok-clause-was g c =
    let ops = c.self.inside.ops in
    let x = c.args.op.now in
    sym (contains_found content op_cmp_total op_cmp_exact (chunked ops) x c.self.invariant.1 (index_of ops c.in-Ok.place) c.in-Ok.ensures.1) ∙ ap (λ s. set.contains s x) c.self.view_is

pub returns-in-Ok-clause-gone : goal.returns-in-Ok-clause-gone
returns-in-Ok-clause-gone g c =
    let ops = c.self.inside.ops in
    let x = c.args.op.now in
    ap (λ es. set.set_of (contents es)) c.remove.ensures.items
    ∙ set_removed content op_cmp_total op_cmp_exact (chunked ops) x (index_of ops c.in-Ok.place) c.self.invariant.1 c.in-Ok.ensures.1
    ∙ ap (λ s. set.remove s x) c.self.view_is

pub returns-in-Err-clause-was : goal.returns-in-Err-clause-was
returns-in-Err-clause-was g c =
    let ops = c.self.inside.ops in
    let x = c.args.op.now in
    sym (contains_missing content op_cmp_total op_cmp_exact (chunked ops) x c.self.invariant.1 (index_of ops c.in-Err.field-0) c.in-Err.ensures.1) ∙ ap (λ s. set.contains s x) c.self.view_is

pub returns-in-Err-clause-gone : goal.returns-in-Err-clause-gone
returns-in-Err-clause-gone g c = sym (remove_missing op_cmp_total op_cmp_exact c.args.self.now c.args.op.now (sym (returns-in-Err-clause-was g c)))
