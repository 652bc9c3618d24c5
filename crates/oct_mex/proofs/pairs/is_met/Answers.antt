use Rattle.std.proofs.Common.{◌≡◌, ◌+◌, ◌-◌, ◌/◌, map, slice_index, bit_xor, arith, ap₂, inl, inr, refl, sym, ◌∙◌}
use Rattle.std.proofs.lemmas.Bool.{cases_eq, cases_lt, false≢true}
use Rattle.oct_mex.proofs.Cells.{at}
use Rattle.oct_mex.proofs.Marking.{pair_to, pair_within}
use Rattle.oct_mex.proofs.pairs.is_met.Goals as goal

pub returns-then-has_nim_sum : goal.returns-then-has_nim_sum
returns-then-has_nim_sum g c =
    let of = slice_index (map g.T.Cell.number c.args.values.now) in
    let at = c.loop-at.at in
    let end = c.args.rest / 2 + 1 in
    let w = g.T.Cell.number c.args.value in (
      (λ _.
          let o = c.has_nim_sum.ensures.0 c.if-has_nim_sum.true in
          pair_within of c.args.rest c.args.from end w o (omega (arith, o.high, c.loop-at.invariant.first)) (omega (arith, o.low))),
      (λ _. refl),
    )

pub loop-at-preserved : goal.loop-at-preserved
loop-at-preserved g c =
    let of = slice_index (map g.T.Cell.number c.args.values.now) in
    let at = c.loop-at.at in
    let w = g.T.Cell.number c.args.value in
    record {
      first = omega (arith, c.loop-at.invariant.first);
      unmet = λ o. elim (cases_lt o.a at) [
        | inl low ↦ c.loop-at.invariant.unmet (pair_to of c.args.rest c.args.from at w o low)
        | inr high ↦ false≢true (sym c.if-has_nim_sum.false ∙ c.has_nim_sum.ensures.1 (pair_within of c.args.rest at (at + 32) w o high o.low))
      ];
    }

pub returns-then-number : goal.returns-then-number
returns-then-number g c =
    let number = g.T.Cell.number in
    let values = c.args.values.now in
    let of = slice_index (map number values) in
    let a = c.loop-a.a in
    let b = c.args.rest - a in
    let is : bit_xor c.number.result c.number-in-loop-a.result ≡ bit_xor (of a) (of b) = ap₂ bit_xor (c.number.ensures ∙ at number values a c.index-values-a.result (omega arith) c.index-values-a.is)
    (c.number-in-loop-a.ensures ∙ at number values b c.index-values-rest.result (omega arith) c.index-values-rest.is) in (
      (λ _. record { a = a; b = b; high = omega (arith, c.loop-at.invariant.first); low = omega arith; ordered = omega arith; total = omega arith; is = sym c.number-in-loop-a-2.ensures ∙ sym c.if-number.true ∙ is }),
      (λ _. refl),
    )

pub loop-a-preserved : goal.loop-a-preserved
loop-a-preserved g c = λ o.
    let number = g.T.Cell.number in
    let values = c.args.values.now in
    let of = slice_index (map number values) in
    let a = c.loop-a.a in
    let b = c.args.rest - a in
    let is : bit_xor c.number.result c.number-in-loop-a.result ≡ bit_xor (of a) (of b) = ap₂ bit_xor (c.number.ensures ∙ at number values a c.index-values-a.result (omega arith) c.index-values-a.is)
    (c.number-in-loop-a.ensures ∙ at number values b c.index-values-rest.result (omega arith) c.index-values-rest.is) in
    elim (cases_eq o.a a) [
      | inl e ↦
          let f : o.b ≡ b = omega (arith, o.total) in
          c.if-number.false (is ∙ sym (c.number-in-loop-a-2.ensures ∙ o.is ∙ ap₂ (λ m n. bit_xor (of m) (of n)) e f))
      | inr ne ↦ c.loop-a.invariant (pair_to of c.args.rest c.args.from a (number c.args.value) o (omega (arith, o.low)))
    ]
