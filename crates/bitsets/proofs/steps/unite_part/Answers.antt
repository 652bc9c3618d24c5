use Rattle.std.proofs.Common.{◌≡◌, ◌+◌, ◌-◌, ◌∙◌, length, map, slice_index, arith, ap, refl, subst}
use Rattle.std.proofs.lemmas.Nat.{pow_pos, xor_lt}
use Rattle.bitsets.specs.Sets.{Adds, Has}
use Rattle.bitsets.proofs.Framing.{InFrame, frame_first, frame_last, frame_more, frame_turned}
use Rattle.bitsets.proofs.Words.{in_range}
use Rattle.bitsets.proofs.steps.unite_part.Goals as goal

pub turn_by-requires : goal.turn_by-requires
turn_by-requires g c = xor_lt g.W.Word.digits c.loop-at.frame (slice_index c.args.values.now c.loop-at.at) c.loop-at.invariant.small (c.requires.few c.loop-at.at (omega (arith, c.requires.beside)))

pub loop-at-init : goal.loop-at-init
loop-at-init g c = record {
  small = pow_pos g.W.Word.digits;
  len = refl;
  adds = λ i within. frame_first g.W.Word.digits (map g.W.Word.number c.args.sets.now) (c.args.place + i) c.args.offsets.now c.args.values.now (slice_index (map g.W.Word.number c.args.block.now) i);
}

pub loop-at-preserved : goal.loop-at-preserved
loop-at-preserved g c =
    let kept = c.loop-at.invariant in
    let d = g.W.Word.digits in
    let number = g.W.Word.number in
    let sets = map number c.args.sets.now in
    let offsets = c.args.offsets.now in
    let values = c.args.values.now in
    let at = c.loop-at.at in
    let value = slice_index values at in
    let offset = slice_index offsets at in
    let from = c.args.place - offset in
    let few = c.requires.few at (omega (arith, c.requires.beside)) in
    record {
      small = few;
      len = omega (arith, c.unite.ensures.len, c.turn_by.ensures.len, kept.len);
      adds = λ i within.
          let place = c.args.place + i in
          let old = slice_index (map number c.args.block.now) i in
          let mid = slice_index (map number c.turn_by.new.sets) i in
          let new = slice_index (map number c.unite.new.sets) i in
          let is : slice_index sets (from + i) ≡ slice_index sets (place - offset) = ap (slice_index sets) (omega (arith, c.requires.before at (omega arith))) in
          let added : Adds mid new (Has (slice_index sets (place - offset))) =
          subst (λ x. Adds mid new (Has x)) (in_range number c.args.sets.now from (from + length c.turn_by.new.sets) i (omega (arith, within, kept.len, c.turn_by.ensures.len)) ∙ is)
          (c.unite.ensures.adds i (omega (arith, within, kept.len, c.turn_by.ensures.len))) in
          frame_more d sets place offsets values old mid new value at refl
          (frame_turned d sets place offsets values old (slice_index (map number c.loop-at.block) i) mid c.loop-at.frame value at kept.small few (kept.adds i within)
          (λ v small. c.turn_by.ensures.turned i v (omega (arith, within, kept.len)) small))
          added;
    }

pub returns-clause-adds : goal.returns-clause-adds
returns-clause-adds g c = λ i within.
    let kept = c.loop-at.invariant in
    let d = g.W.Word.digits in
    let number = g.W.Word.number in
    let sets = map number c.args.sets.now in
    let offsets = c.args.offsets.now in
    let values = c.args.values.now in
    let place = c.args.place + i in
    let old = slice_index (map number c.args.block.now) i in
    let set = slice_index (map number c.loop-at.block) i in
    let end : c.loop-at.at ≡ length offsets = omega arith in
    frame_last d sets place offsets values old set (slice_index (map number c.turn_by-2.new.sets) i) c.loop-at.frame (length offsets) kept.small
    (subst (λ k. InFrame d sets place offsets values old set c.loop-at.frame k) end (kept.adds i within))
    (λ v small. c.turn_by-2.ensures.turned i v (omega (arith, within, kept.len)) small)
