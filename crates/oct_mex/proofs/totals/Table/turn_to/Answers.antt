use Rattle.std.proofs.Common.{◌≡◌, Bool, List, length, map, slice_index, replicate, false, drop, sym, subst, subst₂, ◌∙◌, arith, vec_len}
use Rattle.oct_mex.specs.Marks.{AddsMarks, IsRarePair}
use Rattle.oct_mex.specs.Totals.{Knows}
use Rattle.oct_mex.proofs.Cells.{as_many}
use Rattle.oct_mex.proofs.Tables.{knows_bare, knows_listed, written}
use Rattle.oct_mex.proofs.totals.Table.turn_to.Goals as goal

pub returns-then-mask-gt0-clause-kept : goal.returns-then-mask-gt0-clause-kept
returns-then-mask-gt0-clause-kept g c =
    let all = map g.T.Cell.number c.args.values.now in
    let self = c.args.self.now in
    let heaps = c.args.heaps.now in
    let marks = c.mark_listed_pairs.new.marks in
    let first : c.fill.new.self.items ≡ replicate (vec_len self.marks) false = c.fill.ensures.items (λ y e. e) in
    let second : c.fill-then-self-total.new.self.items ≡ replicate (vec_len self.misses) false = c.fill-then-self-total.ensures.items (λ y e. e) in
    let adds : AddsMarks (replicate (vec_len self.marks) false) marks (IsRarePair (slice_index all) heaps c.args.total (length heaps)) =
    subst (λ (x : List Bool). AddsMarks x marks (IsRarePair (slice_index all) heaps c.args.total (length heaps))) (c.deref_mut.ensures.value ∙ first) c.mark_listed_pairs.ensures in
    subst₂ (Knows c.args.mask all c.args.total 1) (sym (written (vec_len c.fill.new.self) marks (drop (length marks) c.fill.new.self.items) (c.mark_listed_pairs.ensures.size ∙ c.deref_mut.ensures.len))) (sym second)
    (knows_listed c.args.mask all heaps (length c.args.values.now) c.args.total (vec_len self.marks) (vec_len self.misses) marks c.requires.listed.rare c.requires.held (omega (arith, as_many g.T.Cell.number c.args.values.now)) adds)

pub returns-else-mask-gt0-clause-kept : goal.returns-else-mask-gt0-clause-kept
returns-else-mask-gt0-clause-kept g c =
    let all = map g.T.Cell.number c.args.values.now in
    let self = c.args.self.now in
    let first : c.fill.new.self.items ≡ replicate (vec_len self.marks) false = c.fill.ensures.items (λ y e. e) in
    let second : c.fill-then-self-total.new.self.items ≡ replicate (vec_len self.misses) false = c.fill-then-self-total.ensures.items (λ y e. e) in
    subst₂ (Knows c.args.mask all c.args.total 1) (sym first) (sym second)
    (knows_bare c.args.mask all c.args.total (vec_len self.marks) (vec_len self.misses) c.if-mask-gt0.false (omega (arith, c.requires.held, as_many g.T.Cell.number c.args.values.now)))
