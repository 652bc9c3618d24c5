use Rattle.std.proofs.Common.{◌≡◌, map, slice_index, inl, inr, sym, subst, ◌∙◌, arith}
use Rattle.std.proofs.lemmas.Bool.{cases_eq}
use Rattle.oct_mex.specs.NimValues.{nim_value}
use Rattle.oct_mex.proofs.Cells.{at}
use Rattle.oct_mex.proofs.following.Leader.begin_with.Goals as goal

pub loop-heap-preserved : goal.loop-heap-preserved
loop-heap-preserved g c = λ m less.
    let number = g.T.Cell.number in
    let values = c.args.values.now in
    let heap = c.loop-heap.heap in
    let here : slice_index (map number values) heap ≡ nim_value c.args.self.now.code heap =
    sym (at number values heap c.index-values-heap.result c.loop-heap-test.true c.index-values-heap.is) ∙ sym c.number.ensures ∙ c.if-number-value.false ∙ c.value.ensures in
    elim (cases_eq m heap) [
      | inl e ↦ subst (λ k. slice_index (map number values) k ≡ nim_value c.args.self.now.code k) (sym e) here
      | inr ne ↦ c.loop-heap.invariant m (omega arith)
    ]
