use Rattle.std.proofs.Common.{refl, sym, ap, subst, ◌∙◌}
use Rattle.std.proofs.lemmas.Result.{err_from_is_err_and}
use Rattle.oct_ops.specs.Operations.{IsSubset, union}
use Rattle.oct_ops.specs.OrderLaws.{op_cmp_total, op_cmp_exact}
use Rattle.oct_join.specs.Order.{IsBetween}
use Rattle.oct_join.proofs.SetMerging.{joins_start, joins_next, joins_done, joins_between, joins_lack}
use Rattle.oct_record.specs.Content.{RecordContent}
use Rattle.oct_record.proofs.taking.share_all.Goals as goal

pub loop-op-init : goal.loop-op-init
loop-op-init g c = record {
  along =
      joins_start op_cmp_total op_cmp_exact (g.H.Holder.content c.args.holder.now).ops c.args.store.now c.into_iter-op-iterator.result
      (c.into_iter-op-iterator.ensures.into_iter_gives ∙ c.iter_shared-op-items.ensures);
  author = refl;
}

pub loop-op-preserved : goal.loop-op-preserved
loop-op-preserved g c = record {
  along =
      joins_next op_cmp_total op_cmp_exact (g.H.Holder.content c.args.holder.now).ops c.args.store.now (g.H.Holder.content c.loop-op.holder).ops (g.H.Holder.content c.share.new.self).ops c.loop-op.op-iterator c.in-Some.op.now.value c.next.new.self c.in-Some.ensures.steps
      (ap (λ (r : RecordContent). r.ops) c.in_ok-share.ensures.ok) c.loop-op.invariant.along;
  author = ap (λ (r : RecordContent). r.author) c.in_ok-share.ensures.ok ∙ c.loop-op.invariant.author;
}

pub returns-in_err-share-clause-between : goal.returns-in_err-share-clause-between
returns-in_err-share-clause-between g c =
    subst (λ (r : RecordContent). IsBetween IsSubset (g.H.Holder.content c.args.holder.now).ops r.ops (union (g.H.Holder.content c.args.holder.now).ops c.args.store.now)) (sym c.in_err-share.ensures.err)
    (joins_between op_cmp_total op_cmp_exact (g.H.Holder.content c.args.holder.now).ops c.args.store.now (g.H.Holder.content c.loop-op.holder).ops c.loop-op.op-iterator c.loop-op.invariant.along)

pub returns-in_err-share-clause-absent : goal.returns-in_err-share-clause-absent
returns-in_err-share-clause-absent g c =
    rw (err_from_is_err_and c.from_residual.result c.from_residual.ensures.1).1
    (joins_lack op_cmp_total op_cmp_exact _ _ (g.H.Holder.content c.loop-op.holder).ops _ _ _ c.in-Some.ensures.steps c.in_err-share.ensures.absent c.loop-op.invariant.along)

pub returns-clause-ok : goal.returns-clause-ok
returns-clause-ok g c = joins_done op_cmp_total op_cmp_exact (g.H.Holder.content c.args.holder.now).ops c.args.store.now (g.H.Holder.content c.loop-op.holder).ops c.loop-op.op-iterator c.in-None.ensures.steps.0 c.loop-op.invariant.along

pub returns-clause-between : goal.returns-clause-between
returns-clause-between g c = joins_between op_cmp_total op_cmp_exact (g.H.Holder.content c.args.holder.now).ops c.args.store.now (g.H.Holder.content c.loop-op.holder).ops c.loop-op.op-iterator c.loop-op.invariant.along

pub returns-in_err-share-clause-ok : goal.returns-in_err-share-clause-ok
returns-in_err-share-clause-ok g c = rw (err_from_is_err_and c.from_residual.result c.from_residual.ensures.1).1 tt

pub returns-in_err-share-clause-author : goal.returns-in_err-share-clause-author
returns-in_err-share-clause-author g c = ap (λ (r : RecordContent). r.author) c.in_err-share.ensures.err ∙ c.loop-op.invariant.author

pub returns-clause-author : goal.returns-clause-author
returns-clause-author g c = c.loop-op.invariant.author
