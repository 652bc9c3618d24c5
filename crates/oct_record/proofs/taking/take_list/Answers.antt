use Rattle.std.proofs.Common.{◌≡◌, ℕ, suc, ◌+◌, arith, length, sym, ap, subst, ◌∙◌}
use Rattle.std.proofs.lemmas.List.{nil_from_length}
use Rattle.std.specs.Vec.Iter.{into_iter_items}
use Rattle.oct_record.proofs.Along.{TakesAlong, one_more_fits, takes_start, takes_new, takes_held, takes_cut, takes_done, within}
use Rattle.oct_record.proofs.taking.take_list.Goals as goal
use Rattle.oct_record.proofs.taking.take_list.Goals.{then-is_new, else-is_new}

pub loop-op-init : goal.loop-op-init
loop-op-init g c = record {
  along = takes_start (g.H.Holder.content c.args.holder.now) c.args.list _ (c.into_iter-op-iterator.ensures.into_iter_gives.0 ∙ c.into_vec-op-items.ensures.value);
  len =
      let same : length (into_iter_items c.into_iter-op-iterator.result) ≡ length c.into_vec-op-items.result.items = ap length c.into_iter-op-iterator.ensures.into_iter_gives.0 in
      omega (arith, same, c.into_iter-op-iterator.ensures.into_iter_gives.1, c.into_vec-op-items.result.ok.0);
}

pub loop-op-preserved : goal.loop-op-preserved
loop-op-preserved g c =
    let old = (g.H.Holder.content c.args.holder.now) in
    let now = (g.H.Holder.content c.loop-op.holder) in
    let new = (g.H.Holder.content c.insert.new.holder) in
    let list = c.args.list in
    let rest = into_iter_items c.loop-op.op-iterator in
    let next = into_iter_items c.next.new.self in
    let along = c.loop-op.invariant.along in
    let step = c.in-Some.ensures.steps.0 in
    let longer : length rest ≡ suc (length next) = ap length step in
    record {
      along =
          elim c.if-is_new.branch [
            | then-is_new w ↦
                subst (λ (n : ℕ). TakesAlong old new list next (c.loop-op.done + 1) n) (sym w.new-is)
                (takes_new old now new list rest next c.loop-op.done c.loop-op.new c.in-Some.op c.into_vec-op-items.ensures.valid along step c.in-Ok.ensures.ok (sym w.if-is_new.true ∙ c.in-Ok.ensures.added))
            | else-is_new w ↦
                subst (λ (n : ℕ). TakesAlong old new list next (c.loop-op.done + 1) n) (sym w.new-is)
                (takes_held old now new list rest next c.loop-op.done c.loop-op.new c.in-Some.op c.into_vec-op-items.ensures.valid along step c.in-Ok.ensures.ok (sym w.if-is_new.false ∙ c.in-Ok.ensures.added))
          ];
      len = omega (arith, longer, c.in-Some.ensures.steps.1, c.loop-op.invariant.len);
    }

pub returns-in_default-clause-err : goal.returns-in_default-clause-err
returns-in_default-clause-err g c =
    takes_cut (g.H.Holder.content c.args.holder.now) (g.H.Holder.content c.loop-op.holder) (g.H.Holder.content c.insert.new.holder) c.args.list (into_iter_items c.loop-op.op-iterator) (into_iter_items c.next.new.self) c.loop-op.done c.loop-op.new c.in-Some.op c.loop-op.invariant.along
    c.in-Some.ensures.steps.0 c.in_default.ensures.err

pub returns-clause-ok : goal.returns-clause-ok
returns-clause-ok g c =
    let none = nil_from_length (into_iter_items c.loop-op.op-iterator) (sym c.loop-op.invariant.len ∙ c.in-None.ensures.steps.0) in
    (takes_done (g.H.Holder.content c.args.holder.now) (g.H.Holder.content c.loop-op.holder) c.args.list (into_iter_items c.loop-op.op-iterator) c.loop-op.done c.loop-op.new none c.loop-op.invariant.along).0

pub returns-clause-new : goal.returns-clause-new
returns-clause-new g c =
    let none = nil_from_length (into_iter_items c.loop-op.op-iterator) (sym c.loop-op.invariant.len ∙ c.in-None.ensures.steps.0) in
    (takes_done (g.H.Holder.content c.args.holder.now) (g.H.Holder.content c.loop-op.holder) c.args.list (into_iter_items c.loop-op.op-iterator) c.loop-op.done c.loop-op.new none c.loop-op.invariant.along).1

pub returns-in_default-clause-ok : goal.returns-in_default-clause-ok
returns-in_default-clause-ok g c = tt

pub returns-in_default-clause-new : goal.returns-in_default-clause-new
returns-in_default-clause-new g c = tt

pub returns-clause-err : goal.returns-clause-err
returns-clause-err g c = tt

pub overflow_add-new : goal.overflow_add-new
overflow_add-new g c =
    one_more_fits _ _ _ c.loop-op.invariant.along.few
    (within (g.H.Holder.content c.args.holder.now) (g.H.Holder.content c.loop-op.holder) c.args.list (into_iter_items c.loop-op.op-iterator) (into_iter_items c.next.new.self) c.loop-op.done c.loop-op.new c.in-Some.op c.loop-op.invariant.along c.in-Some.ensures.steps.0)
    c.requires

pub overflow_add-done : goal.overflow_add-done
overflow_add-done g c =
    one_more_fits _ _ _ (omega arith)
    (within (g.H.Holder.content c.args.holder.now) (g.H.Holder.content c.loop-op.holder) c.args.list (into_iter_items c.loop-op.op-iterator) (into_iter_items c.next.new.self) c.loop-op.done c.loop-op.new c.in-Some.op c.loop-op.invariant.along c.in-Some.ensures.steps.0)
    c.requires
