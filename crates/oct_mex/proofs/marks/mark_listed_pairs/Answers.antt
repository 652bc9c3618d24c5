use Rattle.std.proofs.Common.{◌≡◌, ◌-◌, ◌<◌, map, length, slice_index, bit_xor, arith, ap₂, subst, ◌∙◌}
use Rattle.oct_mex.specs.Marks.{AddsMarks}
use Rattle.oct_mex.proofs.Cells.{at, as_many, xor_in}
use Rattle.oct_mex.proofs.Marking.{rare_more, rare_same}
use Rattle.oct_mex.proofs.marks.mark_listed_pairs.Goals.{then-heap-gt0+then-heap-rest, else-heap-gt0, else-heap-gt0-via-then-heap-gt0+else-heap-rest, else-heap-gt0-via-else-heap-gt0}
use Rattle.oct_mex.proofs.marks.mark_listed_pairs.Goals as goal

pub mark-requires : goal.mark-requires
mark-requires g c =
    let number = g.T.Cell.number in
    let values = c.args.values.now in
    let beside = c.args.beside.now in
    let heaps = c.args.heaps.now in
    let i = c.loop-at.at in
    let a = slice_index heaps i in
    let b = c.args.rest - a in
    let near : i < length beside = omega (arith, c.requires.beside.size, as_many number beside) in
    let is : bit_xor c.number.result c.number-then-heap-rest.result ≡ bit_xor (slice_index (map number values) a) (slice_index (map number values) b) =
    ap₂ bit_xor (c.number.ensures ∙ at number beside i c.index-beside-at.result near c.index-beside-at.is ∙ c.requires.beside.each i (omega arith))
    (c.number-then-heap-rest.ensures ∙ at number values b c.index-values-rest.result (omega arith) c.index-values-rest.is) in
    omega (arith, is, c.loop-at.invariant.size, xor_in number values (length c.args.marks.now) a b c.requires.table (omega arith) (omega arith))

pub loop-at-preserved : goal.loop-at-preserved
loop-at-preserved g c =
    let number = g.T.Cell.number in
    let values = c.args.values.now in
    let beside = c.args.beside.now in
    let heaps = c.args.heaps.now in
    let i = c.loop-at.at in
    let a = slice_index heaps i in
    let b = c.args.rest - a in
    let near : i < length beside = omega (arith, c.requires.beside.size, as_many number beside) in
    let of = slice_index (map number values) in
    elim c.if-heap-gt0.branch [
      | then-heap-gt0+then-heap-rest w ↦
          let is : bit_xor w.number.result w.number-then-heap-rest.result ≡ bit_xor (of a) (of b) =
          ap₂ bit_xor (w.number.ensures ∙ at number beside i w.index-beside-at.result near w.index-beside-at.is ∙ c.requires.beside.each i (omega arith))
          (w.number-then-heap-rest.ensures ∙ at number values b w.index-values-rest.result (omega (arith, w.if-heap-gt0.true, w.if-heap-rest.true)) w.index-values-rest.is) in
          rw w.marks-is (rare_more of heaps c.args.rest i b c.args.marks.now c.loop-at.marks w.mark.new.marks
          (omega (arith, w.if-heap-gt0.true)) (omega (arith, w.if-heap-rest.true)) (omega (arith, w.if-heap-rest.true)) c.loop-at.invariant
          (subst (λ x. AddsMarks c.loop-at.marks w.mark.new.marks (λ v. v ≡ x)) is w.mark.ensures))
      | else-heap-gt0 w ↦ rw w.marks-is (rare_same of heaps c.args.rest i c.args.marks.now c.loop-at.marks
          (λ some. elim w.else-heap-gt0.branch [
            | else-heap-gt0-via-then-heap-gt0+else-heap-rest u ↦ u.if-heap-rest.false
            | else-heap-gt0-via-else-heap-gt0 u ↦ absurd (omega (arith, u.if-heap-gt0.false))
          ])
          c.loop-at.invariant)
    ]
