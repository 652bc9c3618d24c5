use Rattle.std.proofs.Common.{◌++◌, refl, sym, ap, ◌∙◌, subst}
use Rattle.std.specs.List.{flat_map}
use Rattle.oct_delta.proofs.Written.{written}
use Rattle.oct_delta.specs.Text.{op_bytes}
use Rattle.written.proofs.Piecewise.{IsUnderway, begun, moved, put, spilled}
use Rattle.census_state.proofs.written_states.write_ops.Goals as goal

pub loop-op-init : goal.loop-op-init
loop-op-init g c =
    subst (λ ops. IsUnderway (g.W.Write.contents c.args.out.now) (g.W.Write.contents c.args.out.now) (c.args.front.items ++ flat_map op_bytes c.args.ops) c.args.front.items (flat_map op_bytes ops))
    (sym c.into_iter-op-iterator.ensures.into_iter_gives)
    (begun (g.W.Write.contents c.args.out.now) c.args.front.items (flat_map op_bytes c.args.ops))

pub loop-op-preserved : goal.loop-op-preserved
loop-op-preserved g c =
    let text = c.args.front.items ++ flat_map op_bytes c.args.ops in
    let old = g.W.Write.contents c.args.out.now in
    let before = g.W.Write.contents c.loop-op.out in
    let now = g.W.Write.contents c.spill.new.out in
    let piece = c.spill.new.piece.items in
    let rest = flat_map op_bytes c.loop-op.op-iterator in
    let here = spilled old before now text c.loop-op.piece.items piece rest c.loop-op.invariant c.in_ok-spill.ensures.ok in
    let next = op_bytes c.in-Some.op.now in
    let steps = ap (λ ops. flat_map op_bytes ops) c.in-Some.ensures.steps in
    let more = flat_map op_bytes c.next.new.self in
    let added = written c.put_op.result _ (sym c.is_err.ensures.value ∙ c.if-is_err.false) c.put_op.ensures.ok in
    moved old now now text c.put_op.new.out.items (piece ++ next) more refl added (put old now text piece next more (subst (IsUnderway old now text piece) steps here))
