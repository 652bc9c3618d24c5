use Rattle.std.proofs.Common.{◌≡◌, ◌<◌, ◌+◌, ◌-◌, length, map, slice_index, bit_xor, ◌⊎◌, ◌↔◌, arith, ap, inl, inr, subst, subst₂, sym, ◌∙◌}
use Rattle.std.proofs.lemmas.List.{get_or_default}
use Rattle.std.proofs.lemmas.Nat.{xor_comm, xor_lt}
use Rattle.bitsets.specs.Sets.{Adds, Has}
use Rattle.bitsets.proofs.Bits.{has_or}
use Rattle.bitsets.proofs.Words.{at}
use Rattle.oct_mex.specs.NimValues.{nim_value}
use Rattle.oct_mex.proofs.Cells.{as_many}
use Rattle.oct_sets.specs.Plans.{IsFarMade, IsLowMade, IsMade}
use Rattle.oct_sets.proofs.Words.{made_more}
use Rattle.oct_sets.proofs.sets_of.SetsOf.near_set.Goals as goal

pub one-requires : goal.one-requires
one-requires g c =
    let near = c.args.self.now.plan.near in
    let shaped = c.requires.shaped.plan.near in
    let at = c.loop-at.at in
    let within : at < length near.offsets.items = omega (arith, c.loop-at-test.true, c.len-at-end.ensures) in
    let offset : c.index.result.now ≡ slice_index near.offsets.items at = c.index.ensures ∙ get_or_default near.offsets.items at c.index.result.now 0 within in
    let value : c.index-in-loop-at.result.now ≡ slice_index near.values.items at = c.index-in-loop-at.ensures ∙ get_or_default near.values.items at c.index-in-loop-at.result.now 0 (omega (arith, within, shaped.beside)) in
    xor_lt g.W.Word.digits c.number_at-value.result c.index-in-loop-at.result.now
    (let low = c.requires.low (length c.args.last.now - c.index.result.now) (omega (arith, offset, shaped.from at within, shaped.to at within)) in omega (arith, low, c.number_at-value.ensures))
    (let small = shaped.small at (omega (arith, within, shaped.beside)) in omega (arith, small, value))

pub loop-at-init : goal.loop-at-init
loop-at-init g c = record {
  union = λ code heaps reach right last v small.
      let s = c.args.self.now in
      let number = g.W.Word.number in
      let shaped = c.requires.shaped in
      let k = s.heap - s.start in
      let within : k < s.ready - s.start = omega (arith, shaped.within, shaped.started) in
      let is : number c.index-set.result.now ≡ slice_index (map number s.block.items) k = at number s.block.items k c.index-set.result.now (omega (arith, within, shaped.ready, shaped.block)) c.index-set.ensures in
      let place : s.start + k ≡ s.heap = omega (arith, shaped.started) in
      let told : Has (number c.index-set.result.now) v ↔ (IsFarMade code s.heap s.plan v ⊎ IsLowMade code s.heap s.plan v) =
      subst₂ (λ w n. Has w v ↔ (IsFarMade code n s.plan v ⊎ IsLowMade code n s.plan v)) (sym is) place (right.block.first k v within small) in
      ((λ h. inl (told.0 h)), (λ m. elim m [ inl p ↦ told.1 p | inr n ↦ absurd (omega (arith, n.within)) ]));
}

pub overflow_sub-last : goal.overflow_sub-last
overflow_sub-last g c =
    let near = c.args.self.now.plan.near in
    let shaped = c.requires.shaped.plan.near in
    let at = c.loop-at.at in
    let within : at < length near.offsets.items = omega (arith, c.loop-at-test.true, c.len-at-end.ensures) in
    let offset : c.index.result.now ≡ slice_index near.offsets.items at = c.index.ensures ∙ get_or_default near.offsets.items at c.index.result.now 0 within in
    omega (arith, offset, shaped.to at within)

pub loop-at-preserved : goal.loop-at-preserved
loop-at-preserved g c = record {
  union = λ code heaps reach right last v small.
      let s = c.args.self.now in
      let number = g.W.Word.number in
      let near = s.plan.near in
      let shaped = c.requires.shaped.plan.near in
      let at = c.loop-at.at in
      let within : at < length near.offsets.items = omega (arith, c.loop-at-test.true, c.len-at-end.ensures) in
      let offset : c.index.result.now ≡ slice_index near.offsets.items at = c.index.ensures ∙ get_or_default near.offsets.items at c.index.result.now 0 within in
      let value : c.index-in-loop-at.result.now ≡ slice_index near.values.items at = c.index-in-loop-at.ensures ∙ get_or_default near.values.items at c.index-in-loop-at.result.now 0 (omega (arith, within, shaped.beside)) in
      let d = slice_index near.offsets.items at in
      let h = s.heap - d in
      let last_values = map g.T.Cell.number c.args.last.now in
      let place : length c.args.last.now - c.index.result.now ≡ h + length last_values - s.heap = omega (arith, offset, shaped.to at within, c.requires.shaped.least, as_many g.T.Cell.number c.args.last.now) in
      let known : c.number_at-value.result ≡ nim_value code h = c.number_at-value.ensures ∙ ap (slice_index last_values) place
      ∙ last h (omega (arith, shaped.from at within, shaped.to at within, c.requires.shaped.least)) (omega (arith, shaped.to at within, as_many g.T.Cell.number c.args.last.now)) in
      let is : bit_xor c.number_at-value.result c.index-in-loop-at.result.now ≡ bit_xor (slice_index near.values.items at) c.number_at-value.result =
      xor_comm c.number_at-value.result c.index-in-loop-at.result.now ∙ ap (λ x. bit_xor x c.number_at-value.result) value in
      made_more code s.heap near at (number c.loop-at.set) (number c.united-set.result) (number c.one.result) (bit_xor c.number_at-value.result c.index-in-loop-at.result.now) c.number_at-value.result
      (subst (λ w. Adds (number c.loop-at.set) w (Has (number c.one.result))) (sym c.united-set.ensures) (has_or (number c.loop-at.set) (number c.one.result))) c.one.ensures is known (λ u. IsFarMade code s.heap s.plan u ⊎ IsLowMade code s.heap s.plan u) v (c.loop-at.invariant.union code heaps reach right last v small);
}

pub returns : goal.returns
returns g c = record {
  union = λ code heaps reach right last v small.
      let s = c.args.self.now in
      let number = g.W.Word.number in
      subst (λ k. Has (number c.loop-at.set) v ↔ ((IsFarMade code s.heap s.plan v ⊎ IsLowMade code s.heap s.plan v) ⊎ IsMade code s.heap s.plan.near k v)) (omega (arith, c.loop-at-test.false, c.len-at-end.ensures, c.loop-at.auto.at-end)) (c.loop-at.invariant.union code heaps reach right last v small);
}
