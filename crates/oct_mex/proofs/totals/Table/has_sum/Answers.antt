use Rattle.std.proofs.Common.{◌≡◌, ℕ, ◌/◌, ◌+◌, false, Bool, List, length, map, slice_index, slice_index_or, drop, sym, subst, ap, ◌∙◌, arith, vec_len}
use Rattle.std.proofs.lemmas.Bool.{false≢true}
use Rattle.std.proofs.lemmas.List.{get_or_default}
use Rattle.oct_mex.specs.Marks.{AddsMarks, IsMarked}
use Rattle.oct_mex.specs.Totals.{IsSum, Knows}
use Rattle.oct_mex.proofs.Marking.{pair_within}
use Rattle.oct_mex.proofs.Tables.{knows_met, knows_missed, sought, written}
use Rattle.oct_mex.proofs.totals.Table.has_sum.Goals as goal

pub returns-then-is_sum-clause-kept : goal.returns-then-is_sum-clause-kept
returns-then-is_sum-clause-kept g c = λ mask knows.
    let all = map g.T.Cell.number c.args.values.now in
    let self = c.args.self.now in
    let w = g.T.Cell.number c.args.value in
    let marks = c.mark.new.marks in
    let o = c.is_met-is_sum.ensures.0 c.if-is_sum.true in
    let some = knows.some in
    let met : IsSum all self.total w = pair_within (slice_index all) self.total 1 (self.total / 2 + 1) w o (omega (arith, o.high)) o.low in
    let adds : AddsMarks self.marks.items marks (λ v. v ≡ w) =
    subst (λ (k : ℕ). AddsMarks self.marks.items marks (λ v. v ≡ k)) c.number-at.ensures (subst (λ (x : List Bool). AddsMarks x marks (λ v. v ≡ c.number-at.result)) c.deref_mut.ensures.value c.mark.ensures) in
    subst (λ (x : List Bool). Knows mask all self.total self.end x self.misses.items) (sym (written (vec_len self.marks) marks (drop (length marks) self.marks.items) (c.mark.ensures.size ∙ c.deref_mut.ensures.len)))
    (knows_met mask all self.total self.end w self.marks.items marks self.misses.items knows met adds)

pub returns-else-is_sum-clause-is : goal.returns-else-is_sum-clause-is
returns-else-is_sum-clause-is g c = λ mask knows.
    let all = map g.T.Cell.number c.args.values.now in
    let self = c.args.self.now in
    let w = g.T.Cell.number c.args.value in
    let unmarked : IsMarked self.marks.items w → ⊥ = λ m. false≢true (sym c.if-index.false ∙ c.index.ensures ∙ get_or_default self.marks.items c.number-at.result c.index.result.now false (omega (arith, c.number-at.ensures, c.requires.marks)) ∙ ap (λ k. slice_index_or self.marks.items k false) c.number-at.ensures ∙ m) in
    let unmet : IsSum all self.total w → ⊥ = sought mask all self.total self.end w self.marks.items self.misses.items knows c.requires.marks unmarked (λ o. false≢true (sym c.if-is_sum.false ∙ c.is_met-is_sum.ensures.1 o)) in (
      (λ t. absurd (false≢true (sym c.if-is_sum.false ∙ t))),
      (λ o. absurd (unmet o)),
    )

pub returns-else-is_sum-clause-kept : goal.returns-else-is_sum-clause-kept
returns-else-is_sum-clause-kept g c = λ mask knows.
    let all = map g.T.Cell.number c.args.values.now in
    let self = c.args.self.now in
    let w = g.T.Cell.number c.args.value in
    let misses = c.mark-else-is_sum.new.marks in
    let unmarked : IsMarked self.marks.items w → ⊥ = λ m. false≢true (sym c.if-index.false ∙ c.index.ensures ∙ get_or_default self.marks.items c.number-at.result c.index.result.now false (omega (arith, c.number-at.ensures, c.requires.marks)) ∙ ap (λ k. slice_index_or self.marks.items k false) c.number-at.ensures ∙ m) in
    let unmet : IsSum all self.total w → ⊥ = sought mask all self.total self.end w self.marks.items self.misses.items knows c.requires.marks unmarked (λ o. false≢true (sym c.if-is_sum.false ∙ c.is_met-is_sum.ensures.1 o)) in
    let adds : AddsMarks self.misses.items misses (λ v. v ≡ w) =
    subst (λ (k : ℕ). AddsMarks self.misses.items misses (λ v. v ≡ k)) c.number-at.ensures (subst (λ (x : List Bool). AddsMarks x misses (λ v. v ≡ c.number-at.result)) c.deref_mut-else-is_sum.ensures.value c.mark-else-is_sum.ensures) in
    subst (Knows mask all self.total self.end self.marks.items) (sym (written (vec_len self.misses) misses (drop (length misses) self.misses.items) (c.mark-else-is_sum.ensures.size ∙ c.deref_mut-else-is_sum.ensures.len)))
    (knows_missed mask all self.total self.end w self.marks.items self.misses.items misses knows unmet adds)
