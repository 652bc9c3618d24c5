use Rattle.std.proofs.Common.{◌≡◌, ◌∙◌, ◌-◌, ◌+◌, map, slice_index, arith, length, bit_xor, subst, sym}
use Rattle.std.proofs.lemmas.List.{get_or-map}
use Rattle.oct_mex.specs.Marks.{AddsMarks, IsPairValue}
use Rattle.oct_mex.proofs.Cells.{xor_in}
use Rattle.oct_mex.proofs.Marking.{pairs_more}
use Rattle.oct_mex.proofs.marks.mark_lanes.Goals as goal

pub mark-requires : goal.mark-requires
mark-requires g c =
    let number = g.T.Cell.number in
    let values = c.args.values.now in
    let lane = c.loop-lane.lane in
    let a = c.args.from + lane in
    let b = c.args.rest - a in
    let is : c.number.result ≡ bit_xor (slice_index (map number values) a) (slice_index (map number values) b) =
    c.number.ensures ∙ sym (get_or-map number c.nim_sums-sums.result lane c.index-sums-lane.result 0 (omega arith)) ∙ c.nim_sums-sums.ensures lane (omega arith) in
    omega (arith, is, c.loop-lane.invariant.size, xor_in number values (length c.args.marks.now) a b c.requires.table (omega arith) (omega arith))

pub loop-lane-preserved : goal.loop-lane-preserved
loop-lane-preserved g c =
    let number = g.T.Cell.number in
    let values = c.args.values.now in
    let lane = c.loop-lane.lane in
    let a = c.args.from + lane in
    let b = c.args.rest - a in
    let is : c.number.result ≡ bit_xor (slice_index (map number values) a) (slice_index (map number values) b) =
    c.number.ensures ∙ sym (get_or-map number c.nim_sums-sums.result lane c.index-sums-lane.result 0 (omega arith)) ∙ c.nim_sums-sums.ensures lane (omega arith) in
    let next : a + 1 ≡ c.args.from + (lane + 1) = omega arith in
    subst (λ end. AddsMarks c.args.marks.now c.mark.new.marks (IsPairValue (slice_index (map number values)) c.args.rest c.args.from end)) next
    (pairs_more (slice_index (map number values)) c.args.rest c.args.from a b c.args.marks.now c.loop-lane.marks c.mark.new.marks
    (omega arith) (omega arith) (omega arith) c.loop-lane.invariant (subst (λ x. AddsMarks c.loop-lane.marks c.mark.new.marks (λ v. v ≡ x)) is c.mark.ensures))
