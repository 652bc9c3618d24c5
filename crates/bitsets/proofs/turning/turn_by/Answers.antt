use Rattle.std.proofs.Common.{◌≡◌, ◌↔◌, ◌+◌, ◌-◌, ◌<◌, ◌^◌, ◌≤◌, map, slice_index, bit_xor, arith, ap, refl, subst, sym, ◌∙◌, inl, inr}
use Rattle.std.proofs.lemmas.Nat.Bits.{shr_and_one}
use Rattle.bitsets.specs.Sets.{Has}
use Rattle.bitsets.proofs.Framing.{above, above_all, above_none, is_small, next_bit, turned_more, turned_none}
use Rattle.bitsets.proofs.turning.turn_by.Goals as goal

pub loop-bit-init : goal.loop-bit-init
loop-bit-init g c = record {
  len = refl;
  turned = λ i v within small.
      let none : above c.digits-bit.result c.args.number ≡ 0 = ap (λ k. above k c.args.number) c.digits-bit.ensures ∙ above_none g.W.Word.digits c.args.number c.requires in
      turned_none (slice_index (map g.W.Word.number c.args.sets.now) i) v (above c.digits-bit.result c.args.number) none;
}

pub loop-bit-preserved-then-number-bit-eq1 : goal.loop-bit-preserved-then-number-bit-eq1
loop-bit-preserved-then-number-bit-eq1 g c =
    let kept = c.loop-bit.invariant in
    let d = g.W.Word.digits in
    let number = g.W.Word.number in
    let few : d ≤ 6 = g.met.W.Word.few in
    let x = c.args.number in
    let k = c.loop-bit.bit - 1 in
    let low : k < d = omega (arith, c.loop-bit-test.true, c.loop-bit.auto.bit, c.digits-bit.ensures) in
    let before : k + 1 ≡ c.loop-bit.bit = omega (arith, c.loop-bit-test.true) in
    let was : above c.loop-bit.bit x ≡ above (k + 1) x = ap (λ j. above j x) (sym before) in
    let next = next_bit x k (is_small d x few c.requires) (omega (arith, low, few)) in
    record {
      len = omega (arith, c.turn_all.ensures.len, kept.len);
      turned = λ i v within small. elim next [
        | inl b ↦ turned_more d (slice_index (map number c.args.sets.now) i) (slice_index (map number c.loop-bit.sets) i) (slice_index (map number c.turn_all.new.sets) i) (above c.loop-bit.bit x) (above k x) k v low small
            (b.1 ∙ ap (λ y. bit_xor y (2 ^ k)) (sym was)) (λ u s. kept.turned i u within s) (c.turn_all.ensures.turned i v (omega (arith, within, kept.len)) small)
        | inr b ↦ absurd (omega (arith, b.0, shr_and_one x k, c.if-number-bit-eq1.true))
      ];
    }

pub loop-bit-preserved : goal.loop-bit-preserved
loop-bit-preserved g c =
    let kept = c.loop-bit.invariant in
    let d = g.W.Word.digits in
    let number = g.W.Word.number in
    let few : d ≤ 6 = g.met.W.Word.few in
    let x = c.args.number in
    let k = c.loop-bit.bit - 1 in
    let low : k < d = omega (arith, c.loop-bit-test.true, c.loop-bit.auto.bit, c.digits-bit.ensures) in
    let before : k + 1 ≡ c.loop-bit.bit = omega (arith, c.loop-bit-test.true) in
    let was : above c.loop-bit.bit x ≡ above (k + 1) x = ap (λ j. above j x) (sym before) in
    let next = next_bit x k (is_small d x few c.requires) (omega (arith, low, few)) in
    record {
      len = kept.len;
      turned = λ i v within small. elim next [
        | inl b ↦ absurd (omega (arith, b.0, shr_and_one x k, c.if-number-bit-eq1.false))
        | inr b ↦ subst (λ y. Has (slice_index (map number c.loop-bit.sets) i) v ↔ Has (slice_index (map number c.args.sets.now) i) (bit_xor v y)) (was ∙ sym b.1) (kept.turned i v within small)
      ];
    }

pub returns-clause-turned : goal.returns-clause-turned
returns-clause-turned g c = λ i v within small.
    let all : above c.loop-bit.bit c.args.number ≡ c.args.number = ap (λ k. above k c.args.number) (let end : c.loop-bit.bit ≡ 0 = omega (arith, c.loop-bit-test.false) in end) ∙ above_all c.args.number in
    subst (λ y. Has (slice_index (map g.W.Word.number c.loop-bit.sets) i) v ↔ Has (slice_index (map g.W.Word.number c.args.sets.now) i) (bit_xor v y)) all (c.loop-bit.invariant.turned i v within small)
