use Rattle.std.proofs.Common.{◌≡◌, ◌≤◌, suc, length, sym, ap, ◌∙◌, subst, arith}
use Rattle.std.proofs.lemmas.List.{nil_from_length}
use Rattle.std.specs.Vec.Iter.{into_iter_items}
use Rattle.oct_delta.specs.Text.{op_bytes}
use Rattle.oct_ops.proofs.Growing.{extends_trans}
use Rattle.oct_sync.specs.Frames.{pack_room}
use Rattle.oct_sync.specs.Packs.{may_follow}
use Rattle.oct_sync.proofs.Gathering.{Ready, size_of, begin, gathered, all_sent, pack_rises, ready_after, ready_still, size_of-end}
use Rattle.oct_sync.proofs.deltas.put_delta_frames.Goals as goal
use Rattle.oct_sync.proofs.deltas.put_delta_frames.Goals.{then-not-may_follow+in_ok-put_pack, else-not-may_follow}

pub loop-op-init : goal.loop-op-init
loop-op-init g c = record {
  gathering = begin c.args.list _ _ c.args.out.now.items c.new-pack.ensures.items (c.into_iter-op-iterator.ensures.into_iter_gives.0 ∙ c.into_vec-op-items.ensures.value) c.into_vec-op-items.ensures.valid;
  size = sym (ap size_of c.new-pack.ensures.items);
  len =
      let same : length (into_iter_items c.into_iter-op-iterator.result) ≡ length c.into_vec-op-items.result.items = ap length c.into_iter-op-iterator.ensures.into_iter_gives.0 in
      omega (arith, same, c.into_iter-op-iterator.ensures.into_iter_gives.1, c.into_vec-op-items.result.ok.0);
}

pub put_pack-requires-clause-rises : goal.put_pack-requires-clause-rises
put_pack-requires-clause-rises g c = pack_rises _ _ _ _ _ c.loop-op.invariant.gathering

pub overflow_add-size : goal.overflow_add-size
overflow_add-size g c =
    let ready : Ready c.args.list c.if-not-may_follow.pack.items (into_iter_items c.loop-op.op-iterator) c.in-Some.op c.args.out.now.items c.if-not-may_follow.out.items c.if-not-may_follow.size =
    elim c.if-not-may_follow.branch [
      | then-not-may_follow+in_ok-put_pack w ↦
          ready_after _ c.loop-op.pack.items _ _ _ c.in-Some.op _ c.loop-op.out.items _ _ c.in-Some.ensures.steps.0 (sym (c.may_follow.ensures ∙ ap (λ xs. may_follow xs c.in-Some.op) c.deref.ensures.value) ∙ w.if-not-may_follow.true)
          (ap (λ v. v.items) w.pack-is ∙ w.new-pack-then-not-may_follow.ensures.items) (ap (λ v. v.items) w.out-is ∙ w.in_ok-put_pack.ensures.ok) w.size-is c.loop-op.invariant.gathering
      | else-not-may_follow w ↦
          ready_still _ c.loop-op.pack.items _ _ c.in-Some.op _ c.loop-op.out.items _ c.loop-op.size _ (sym (c.may_follow.ensures ∙ ap (λ xs. may_follow xs c.in-Some.op) c.deref.ensures.value) ∙ w.if-not-may_follow.false)
          (ap (λ v. v.items) w.pack-is) (ap (λ v. v.items) w.out-is) w.size-is c.loop-op.invariant.size c.loop-op.invariant.gathering
    ] in
    let fits = ready.gathering.is.fits in
    let sized = ready.sized in
    let small = c.op_size-size.ensures.small in
    omega (arith, fits, sized, small)

pub loop-op-preserved : goal.loop-op-preserved
loop-op-preserved g c =
    let ready : Ready c.args.list c.if-not-may_follow.pack.items (into_iter_items c.loop-op.op-iterator) c.in-Some.op c.args.out.now.items c.if-not-may_follow.out.items c.if-not-may_follow.size =
    elim c.if-not-may_follow.branch [
      | then-not-may_follow+in_ok-put_pack w ↦
          ready_after _ c.loop-op.pack.items _ _ _ c.in-Some.op _ c.loop-op.out.items _ _ c.in-Some.ensures.steps.0 (sym (c.may_follow.ensures ∙ ap (λ xs. may_follow xs c.in-Some.op) c.deref.ensures.value) ∙ w.if-not-may_follow.true)
          (ap (λ v. v.items) w.pack-is ∙ w.new-pack-then-not-may_follow.ensures.items) (ap (λ v. v.items) w.out-is ∙ w.in_ok-put_pack.ensures.ok) w.size-is c.loop-op.invariant.gathering
      | else-not-may_follow w ↦
          ready_still _ c.loop-op.pack.items _ _ c.in-Some.op _ c.loop-op.out.items _ c.loop-op.size _ (sym (c.may_follow.ensures ∙ ap (λ xs. may_follow xs c.in-Some.op) c.deref.ensures.value) ∙ w.if-not-may_follow.false)
          (ap (λ v. v.items) w.pack-is) (ap (λ v. v.items) w.out-is) w.size-is c.loop-op.invariant.size c.loop-op.invariant.gathering
    ] in
    let short : length (op_bytes c.in-Some.op) ≤ pack_room = let size = c.op_size-size.ensures.size in let small = c.op_size-size.ensures.small in omega (arith, size, small) in
    let longer : length (into_iter_items c.loop-op.op-iterator) ≡ suc (length (into_iter_items c.next.new.self)) = ap length c.in-Some.ensures.steps.0 in
    record {
      gathering = subst (λ xs. Rattle.oct_sync.proofs.Gathering.Gathering c.args.list xs (into_iter_items c.next.new.self) c.args.out.now.items c.if-not-may_follow.out.items) (sym c.in_ok-push.ensures.items)
          (gathered _ _ _ _ c.in-Some.op _ _ c.in-Some.ensures.steps.0 ready.may short ready.gathering);
      size = size_of-end c.if-not-may_follow.pack.items c.in-Some.op _ _ ready.sized c.op_size-size.ensures.size ∙ sym (ap size_of c.in_ok-push.ensures.items);
      len = omega (arith, longer, c.in-Some.ensures.steps.1, c.loop-op.invariant.len);
    }

pub returns-in_err-push-clause-kept : goal.returns-in_err-push-clause-kept
returns-in_err-push-clause-kept g c =
    elim c.if-not-may_follow.branch [
      | then-not-may_follow+in_ok-put_pack w ↦ subst (λ v. Rattle.oct_ops.specs.Growth.Extends c.args.out.now.items v.items) (sym w.out-is) (extends_trans _ _ _ c.loop-op.invariant.gathering.kept w.put_pack.ensures.kept)
      | else-not-may_follow w ↦ subst (λ v. Rattle.oct_ops.specs.Growth.Extends c.args.out.now.items v.items) (sym w.out-is) c.loop-op.invariant.gathering.kept
    ]

pub put_pack-requires-2-clause-rises : goal.put_pack-requires-2-clause-rises
put_pack-requires-2-clause-rises g c = pack_rises _ _ _ _ _ c.loop-op.invariant.gathering

pub returns-clause-ok : goal.returns-clause-ok
returns-clause-ok g c =
    all_sent _ _ _ _ _ _ (nil_from_length _ (sym c.loop-op.invariant.len ∙ c.in-None.ensures.steps.0)) c.in_ok-put_pack-2.ensures.ok c.loop-op.invariant.gathering

pub put_pack-requires-clause-is : goal.put_pack-requires-clause-is
put_pack-requires-clause-is g c = c.loop-op.invariant.size

pub put_pack-requires-clause-fits : goal.put_pack-requires-clause-fits
put_pack-requires-clause-fits g c = let fits = c.loop-op.invariant.gathering.is.fits in omega (arith, fits, c.loop-op.invariant.size)

pub put_pack-requires-2-clause-is : goal.put_pack-requires-2-clause-is
put_pack-requires-2-clause-is g c = c.loop-op.invariant.size

pub put_pack-requires-2-clause-fits : goal.put_pack-requires-2-clause-fits
put_pack-requires-2-clause-fits g c = let fits = c.loop-op.invariant.gathering.is.fits in omega (arith, fits, c.loop-op.invariant.size)
