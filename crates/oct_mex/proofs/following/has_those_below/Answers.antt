use Rattle.std.proofs.Common.{◌≡◌, length, map, slice_index, inl, inr, refl, sym, subst, arith}
use Rattle.std.proofs.lemmas.Bool.{cases_eq, false≢true}
use Rattle.oct_mex.specs.Marks.{IsOneHeapBy}
use Rattle.oct_mex.specs.NimValues.{IsOptionValue}
use Rattle.oct_mex.proofs.Marked.{few_removed}
use Rattle.oct_mex.proofs.following.has_those_below.Goals.{in-Some+else-number-end, else-number-end-via-then-number-end+else-not-has_option, else-number-end-via-else-number-end, in_default}
use Rattle.oct_mex.proofs.following.has_those_below.Goals as goal

pub returns-then-not-has_option : goal.returns-then-not-has_option
returns-then-not-has_option g c = (
  (λ t. absurd (false≢true t)),
  (λ all.
      let v = g.T.Cell.number c.in-Some.option in
      c.if-not-has_option.ensures.1 (all v (omega (arith, c.number.ensures, c.if-number-end.true)) (c.loop-removed.removed, (c.in-Some.ensures v).1 refl))),
)

pub loop-removed-preserved : goal.loop-removed-preserved
loop-removed-preserved g c = λ v r low less o.
    let leader = c.args.leader.now in
    let of = slice_index (map g.T.Cell.number c.args.values.now) in
    let n = length c.args.values.now in
    elim (cases_eq r c.loop-removed.removed) [
      | inl e ↦
          let here = subst (λ s. IsOneHeapBy leader of n s v) e o in
          elim c.match-one_heap.branch [
            | in-Some+else-number-end w ↦
                let is : v ≡ g.T.Cell.number w.in-Some.option = (w.in-Some.ensures v).0 here in
                elim w.else-number-end.branch [
                  | else-number-end-via-then-number-end+else-not-has_option x ↦ subst (IsOptionValue c.args.code.now of n) (sym is) (x.has_option.ensures.0 x.if-not-has_option.false)
                  | else-number-end-via-else-number-end x ↦ absurd (omega (arith, is, w.number.ensures, x.if-number-end.false))
                ]
            | in_default w ↦ absurd (w.in_default.ensures v here)
          ]
      | inr ne ↦ c.loop-removed.invariant v r low (omega arith) o
    ]

pub returns : goal.returns
returns g c =
    let leader = c.args.leader.now in
    let of = slice_index (map g.T.Cell.number c.args.values.now) in
    let n = length c.args.values.now in (
      (λ t v low o. c.loop-removed.invariant v o.0 low (omega (arith, few_removed leader of n o.0 v o.1.0, c.min-removed-end.ensures, c.len.ensures.value, c.loop-removed-test.false)) o.1),
      (λ all. refl),
    )
