use Rattle.std.proofs.Common.{◌≡◌, ◌↔◌, ◌-◌, length, map, min, slice_index, IsTrue, ◌∙◌, sym, subst, arith}
use Rattle.std.proofs.lemmas.Grind.{common_steps}
use Rattle.oct_code.specs.Code.{allows}
use Rattle.oct_mex.specs.Marks.{IsOneHeapBy, heaps_left}
use Rattle.oct_mex.proofs.Cells.{at}
use Rattle.oct_mex.proofs.Led.{one_heap_is}
use Rattle.oct_mex.proofs.Moves.{heaps_left_one}
use Rattle.oct_mex.proofs.following.one_heap.Goals as goal

pub returns-then-allows : goal.returns-then-allows
returns-then-allows g c = λ v.
    let number = g.T.Cell.number in
    let code = c.args.code.now in
    let of = slice_index (map number c.args.values.now) in
    let n = length c.args.values.now in
    let r = c.args.removed in
    let is : number c.index-values-rest.result ≡ of (n - r) = at number c.args.values.now (n - r) c.index-values-rest.result (omega arith) c.index-values-rest.is in
    let one : c.from.result ≡ min (n - r) 1 = grind (arith, common_steps) in
    let allowed : IsTrue (allows code r (heaps_left 0 (n - r))) = subst (λ h. IsTrue (allows code r h)) (one ∙ sym (heaps_left_one (n - r))) (sym c.if-allows.ensures) in
    subst (λ x. IsOneHeapBy code of n r v ↔ (v ≡ x)) (sym is) (one_heap_is code of n r v c.requires.empty c.requires.held c.requires.some c.requires.few allowed)
