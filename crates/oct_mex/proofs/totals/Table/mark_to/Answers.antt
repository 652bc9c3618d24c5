use Rattle.std.proofs.Common.{Bool, List, length, map, slice_index, drop, sym, subst, ◌∙◌, arith, vec_len}
use Rattle.oct_mex.specs.Marks.{AddsMarks, IsPairValue}
use Rattle.oct_mex.specs.Totals.{Knows}
use Rattle.oct_mex.proofs.Tables.{knows_pairs, written}
use Rattle.oct_mex.proofs.totals.Table.mark_to.Goals as goal

pub returns-then-self-end-clause-kept : goal.returns-then-self-end-clause-kept
returns-then-self-end-clause-kept g c = λ mask knows.
    let all = map g.T.Cell.number c.args.values.now in
    let self = c.args.self.now in
    let marks = c.mark_pairs.new.marks in
    let adds : AddsMarks self.marks.items marks (IsPairValue (slice_index all) self.total self.end c.args.end) =
    subst (λ (x : List Bool). AddsMarks x marks (IsPairValue (slice_index all) self.total self.end c.args.end)) c.deref_mut.ensures.value c.mark_pairs.ensures in
    subst (λ (x : List Bool). Knows mask all self.total c.args.end x self.misses.items) (sym (written (vec_len self.marks) marks (drop (length marks) self.marks.items) (c.mark_pairs.ensures.size ∙ c.deref_mut.ensures.len)))
    (knows_pairs mask all self.total self.end c.args.end self.marks.items marks self.misses.items (omega arith) knows adds)
