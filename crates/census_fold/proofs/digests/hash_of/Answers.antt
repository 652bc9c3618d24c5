use Rattle.std.proofs.Common.{◌++◌, refl, ap, ◌∙◌, subst}
use Rattle.std.specs.List.{flat_map}
use Rattle.sha2.specs.Hashers.{Holds256}
use Rattle.oct_delta.specs.Text.{Bytes, op_bytes}
use Rattle.census_fold.proofs.Hashing.{IsHashing, flushed, moved, put}
use Rattle.census_fold.proofs.digests.hash_of.Goals as goal
use Rattle.census_fold.proofs.digests.hash_of.Goals.{then-len-ge-PIECE, else-len-ge-PIECE}

pub loop-op-preserved : goal.loop-op-preserved
loop-op-preserved c =
    let text = c.args.head.items ++ flat_map op_bytes c.args.ops in
    let now = c.if-len-ge-PIECE.hasher in
    let piece = c.if-len-ge-PIECE.piece.items in
    let rest = flat_map op_bytes c.loop-op.op-iterator in
    let here : IsHashing now text piece rest =
    elim c.if-len-ge-PIECE.branch as (λ x. IsHashing now text piece rest) [
      | then-len-ge-PIECE w ↦
          let took = subst (λ (b : Bytes). (m : Bytes) → Holds256 c.loop-op.hasher m → Holds256 w.update.new.self (m ++ b)) w.as_slice.ensures.value w.update.ensures in
          moved now w.update.new.self text piece _ rest w.hasher-is (ap (λ p. p.items) w.piece-is ∙ w.clear.ensures.items)
          (flushed c.loop-op.hasher w.update.new.self text c.loop-op.piece.items rest c.loop-op.invariant took)
      | else-len-ge-PIECE w ↦ moved now c.loop-op.hasher text piece c.loop-op.piece.items rest w.hasher-is (ap (λ p. p.items) w.piece-is) c.loop-op.invariant
    ] in
    let next = op_bytes c.in-Some.op.now in
    let steps = ap (λ ops. flat_map op_bytes ops) c.in-Some.ensures.steps in
    let more = flat_map op_bytes c.next.new.self in
    moved now now text c.put_op.new.out.items (piece ++ next) more refl c.in_ok-put_op.ensures.ok (put now text piece next more (subst (IsHashing now text piece) steps here))
