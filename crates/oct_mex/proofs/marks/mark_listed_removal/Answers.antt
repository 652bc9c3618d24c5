use Rattle.std.proofs.Common.{map, ◌∙◌, length, slice_index, sym}
use Rattle.std.proofs.lemmas.Bool.{false≢true}
use Rattle.oct_mex.proofs.Marking.{rare_by, rare_by_one}
use Rattle.oct_mex.proofs.marks.mark_listed_removal.Goals as goal

pub returns-then-allows : goal.returns-then-allows
returns-then-allows g c =
    let values = map g.T.Cell.number c.args.values.now in
    rare_by c.args.code.now (slice_index values) (length c.args.values.now) c.args.removed c.args.heaps.now c.args.marks.now c.mark_one_heap.new.marks c.mark_listed_pairs.new.marks
    c.requires.held c.requires.few (sym c.if-allows.ensures) c.mark_one_heap.ensures c.mark_listed_pairs.ensures

pub returns-else-allows : goal.returns-else-allows
returns-else-allows g c =
    let values = map g.T.Cell.number c.args.values.now in
    rare_by_one c.args.code.now (slice_index values) (length c.args.values.now) c.args.removed c.args.heaps.now c.args.marks.now c.mark_one_heap.new.marks
    (λ t. false≢true (c.if-allows.ensures ∙ t)) c.mark_one_heap.ensures
