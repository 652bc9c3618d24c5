use Rattle.std.proofs.Common.{◌≡◌, ◌+◌, ◌++◌, ◌∷◌, [], ℕ, suc, ap, ap₂, arith, length, sym, take, ◌∙◌}
use Rattle.std.proofs.Math.Seq.{take-suc}
use Rattle.oct_mex.proofs.narrow.Narrow.follow.Goals as goal

pub loop-heap-preserved : goal.loop-heap-preserved
loop-heap-preserved g c =
    let values = c.args.values.now in
    let heap = c.loop-heap.heap in
    let next : suc heap ≡ heap + 1 = omega arith in
    record {
      len = omega (arith, c.push_reserved.ensures.len, c.loop-heap.invariant.len);
      within = omega arith;
      room = c.push_reserved.ensures.capacity ∙ c.loop-heap.invariant.room;
      begins = c.push_reserved.ensures.items ∙ ap₂ (λ xs v. xs ++ v ∷ []) c.loop-heap.invariant.begins c.in-Ok.ensures.1
          ∙ sym (take-suc values heap 0 c.loop-heap-test.true) ∙ ap (λ k. take k values) next;
    }
