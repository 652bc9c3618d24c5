use Rattle.std.proofs.Common.{length, map, slice_index, inl, inr, refl, sym, subst, ◌∙◌, arith}
use Rattle.std.proofs.lemmas.Bool.{cases_eq, false≢true}
use Rattle.oct_mex.specs.Marks.{IsOneHeapBy}
use Rattle.oct_mex.proofs.Marked.{few_removed}
use Rattle.oct_mex.proofs.following.has_one_heap.Goals.{in-Some+else-number-value, in_default}
use Rattle.oct_mex.proofs.following.has_one_heap.Goals as goal

pub returns-then-number-value : goal.returns-then-number-value
returns-then-number-value g c =
    ((λ t. (c.loop-removed.removed, (c.in-Some.ensures c.args.value).1 (sym c.if-number-value.true ∙ c.number.ensures))), (λ o. refl))

pub loop-removed-preserved : goal.loop-removed-preserved
loop-removed-preserved g c = λ r low o.
    let code = c.args.code.now in
    let of = slice_index (map g.T.Cell.number c.args.values.now) in
    let n = length c.args.values.now in
    let v = c.args.value in
    elim (cases_eq r c.loop-removed.removed) [
      | inl e ↦
          let here = subst (λ s. IsOneHeapBy code of n s v) e o in
          elim c.match-one_heap.branch [
            | in-Some+else-number-value w ↦ absurd (w.if-number-value.false (w.number.ensures ∙ sym ((w.in-Some.ensures v).0 here)))
            | in_default w ↦ w.in_default.ensures v here
          ]
      | inr ne ↦ c.loop-removed.invariant r (omega arith) o
    ]

pub returns : goal.returns
returns g c =
    let code = c.args.code.now in
    let of = slice_index (map g.T.Cell.number c.args.values.now) in
    let n = length c.args.values.now in (
      (λ t. absurd (false≢true t)),
      (λ o. absurd (c.loop-removed.invariant o.0 (omega (arith, few_removed code of n o.0 c.args.value o.1.0, c.min-removed-end.ensures, c.len.ensures.value, c.loop-removed-test.false)) o.1)),
    )
