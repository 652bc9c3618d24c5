use Rattle.std.proofs.Common.{◌≡◌, ◌-◌, map, length, slice_index, bit_xor, arith, ap₂, subst, ◌∙◌}
use Rattle.oct_mex.specs.Marks.{AddsMarks}
use Rattle.oct_mex.proofs.Cells.{at, xor_in}
use Rattle.oct_mex.proofs.Marking.{with_heap}
use Rattle.oct_mex.proofs.marks.mark_pair_with.Goals as goal

pub mark-requires : goal.mark-requires
mark-requires g c =
    let number = g.T.Cell.number in
    let values = c.args.values.now in
    let a = c.args.heap in
    let b = c.args.total - a in
    let is : bit_xor c.args.value c.number.result ≡ bit_xor (slice_index (map number values) a) (slice_index (map number values) b) =
    ap₂ bit_xor c.requires.value (c.number.ensures ∙ at number values b c.index-values-total.result (omega arith) c.index-values-total.is) in
    omega (arith, is, xor_in number values (length c.args.marks.now) a b c.requires.table (omega arith) (omega arith))

pub returns-then-heap-total : goal.returns-then-heap-total
returns-then-heap-total g c =
    let number = g.T.Cell.number in
    let values = c.args.values.now in
    let a = c.args.heap in
    let b = c.args.total - a in
    let is : bit_xor c.args.value c.number.result ≡ bit_xor (slice_index (map number values) a) (slice_index (map number values) b) =
    ap₂ bit_xor c.requires.value (c.number.ensures ∙ at number values b c.index-values-total.result (omega arith) c.index-values-total.is) in
    with_heap (slice_index (map number values)) a c.args.total b c.args.marks.now c.mark.new.marks (omega arith) (omega arith) (omega arith)
    (subst (λ x. AddsMarks c.args.marks.now c.mark.new.marks (λ v. v ≡ x)) is c.mark.ensures)
