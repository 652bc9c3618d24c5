use Rattle.std.proofs.Common.{map, ◌-◌, ◌/◌, ◌+◌, IsTrue, length, slice_index, inl, inr, refl, sym, ◌∙◌, subst, arith}
use Rattle.std.proofs.lemmas.Bool.{cases_eq, false≢true}
use Rattle.oct_code.specs.Code.{allows}
use Rattle.oct_mex.specs.Marks.{IsPairValue}
use Rattle.oct_mex.proofs.Walks.{late_allowed, late_pair, pair_late}
use Rattle.oct_mex.proofs.pairs.has_pair.Goals.{else-allows-via-then-allows+else-is_met, else-allows-via-else-allows}
use Rattle.oct_mex.proofs.pairs.has_pair.Goals as goal

pub returns-then-is_met : goal.returns-then-is_met
returns-then-is_met g c =
    let n = length c.args.values.now in
    let r = c.loop-removed.removed in (
      (λ t. late_pair c.args.code.now (slice_index (map g.T.Cell.number c.args.values.now)) n r c.args.from ((n - r) / 2 + 1) (g.T.Cell.number c.args.value) (omega arith) (omega arith)
          (sym c.if-allows.ensures) c.requires (c.is_met.ensures.0 c.if-is_met.true)),
      (λ o. refl),
    )

pub loop-removed-preserved : goal.loop-removed-preserved
loop-removed-preserved g c = λ o low.
    let code = c.args.code.now in
    let of = slice_index (map g.T.Cell.number c.args.values.now) in
    let n = length c.args.values.now in
    let r = c.loop-removed.removed in
    elim (cases_eq o.removed r) [
      | inl e ↦ elim c.else-allows.branch [
        | else-allows-via-then-allows+else-is_met w ↦
            let met : IsPairValue of (n - r) c.args.from ((n - r) / 2 + 1) (g.T.Cell.number c.args.value) =
            subst (λ s. IsPairValue of (n - s) c.args.from ((n - s) / 2 + 1) (g.T.Cell.number c.args.value)) e (pair_late code of n c.args.from (g.T.Cell.number c.args.value) o) in
            false≢true (sym w.if-is_met.false ∙ w.is_met.ensures.1 met)
        | else-allows-via-else-allows w ↦
            let allowed : IsTrue (allows code r 2) = subst (λ s. IsTrue (allows code s 2)) e (late_allowed code of n c.args.from (g.T.Cell.number c.args.value) o c.requires) in
            false≢true (w.if-allows.ensures ∙ allowed)
      ]
      | inr ne ↦ c.loop-removed.invariant o (omega arith)
    ]

pub returns : goal.returns
returns g c = (
  (λ t. absurd (false≢true t)),
  (λ o. absurd (c.loop-removed.invariant o (omega (arith, o.option.parts.few, o.option.parts.total)))),
)
