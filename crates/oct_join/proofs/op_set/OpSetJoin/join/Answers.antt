use Rattle.std.proofs.Common.{sym, ap, ◌∙◌}
use Rattle.std.proofs.lemmas.Result.{err_from_is_err_and}
use Rattle.chunked.specs.Chunked.{chunked}
use Rattle.oct_ops.specs.Operations.{contains, insert, listed}
use Rattle.oct_ops.specs.OrderLaws.{op_cmp_total, op_cmp_exact}
use Rattle.oct_ops.specs.SetLaws.{listed-set_of}
use Rattle.oct_join.specs.Shared.{contents}
use Rattle.oct_join.proofs.SetMerging.{joins_start, joins_next, joins_done, joins_between, joins_lack}
use Rattle.oct_join.proofs.op_set.OpSetJoin.join.Goals as goal

pub loop-op-init : goal.loop-op-init
loop-op-init g c =
    joins_start op_cmp_total op_cmp_exact _ _ _
    (ap contents (c.into_iter-op-iterator.ensures.into_iter_gives ∙ c.iter-op-items.ensures)
    ∙ sym (listed-set_of op_cmp_total op_cmp_exact (contents (chunked c.other.inside.ops)) c.other.invariant.1) ∙ ap listed c.other.view_is)

pub loop-op-preserved : goal.loop-op-preserved
loop-op-preserved g c = joins_next op_cmp_total op_cmp_exact _ _ _ _ _ _ _ (ap contents c.in-Some.ensures.steps) (c.in_ok-share.ensures.ok ∙ ap (insert c.loop-op.self) c.reference.ensures) c.loop-op.invariant

pub returns-in_err-share-clause-err : goal.returns-in_err-share-clause-err
returns-in_err-share-clause-err g c =
    let p = err_from_is_err_and c.from_residual.result c.from_residual.ensures.1 in
    rw (p.1, c.in_err-share.ensures.err) (joins_between op_cmp_total op_cmp_exact _ _ _ _ c.loop-op.invariant)

pub returns-in_err-share-clause-absent : goal.returns-in_err-share-clause-absent
returns-in_err-share-clause-absent g c =
    rw (err_from_is_err_and c.from_residual.result c.from_residual.ensures.1).1
    (joins_lack op_cmp_total op_cmp_exact _ _ _ _ _ _ (ap contents c.in-Some.ensures.steps) (ap (contains c.loop-op.self) (sym c.reference.ensures) ∙ c.in_err-share.ensures.absent) c.loop-op.invariant)

pub returns-clause-ok : goal.returns-clause-ok
returns-clause-ok g c = joins_done op_cmp_total op_cmp_exact _ _ _ _ (ap contents c.in-None.ensures.steps.0) c.loop-op.invariant
