use Rattle.std.proofs.Common.{◌≡◌, ◌+◌, ◌<◌, ◌↔◌, length, drop, map, slice_index, ap, arith, subst, sym, vec_len}
use Rattle.bitsets.specs.Sets.{Has}
use Rattle.bitsets.proofs.Words.{as_many}
use Rattle.oct_sets.specs.Plans.{IsFarMade}
use Rattle.oct_sets.specs.declared.plan.TheConstants.{BLOCK}
use Rattle.oct_sets.proofs.Words.{added_to_none, slices_added, taken}
use Rattle.oct_sets.proofs.sets_of.SetsOf.add_far.Goals as goal

pub returns-clause-block : goal.returns-clause-block
returns-clause-block g c code are both = record {
  first = λ i v none small. absurd (omega (arith, none));
  others = λ i v after within small.
      let s = c.args.self.now in
      let number = g.W.Word.number in
      let words = map number s.words.items in
      let many : length words ≡ vec_len s.words = omega (arith, as_many number s.words.items) in
      let far = c.requires.far in
      let new = c.unite_steps.new.block in
      let long : length new ≡ vec_len s.block = omega (arith, c.unite_steps.ensures.len, c.clear.ensures.len, c.deref_mut-block.ensures.len) in
      let low : i < length c.clear.new.block = omega (arith, within, c.requires.block, c.clear.ensures.len, c.deref_mut-block.ensures.len) in
      let made : Has (slice_index (map number new) i) v ↔ IsFarMade code (s.heap + i) s.plan v =
      added_to_none (slice_index (map number c.clear.new.block) i) (slice_index (map number new) i) v (IsFarMade code (s.heap + i) s.plan v) (c.clear.ensures.none i (omega (arith, low, c.clear.ensures.len)))
      (slices_added g.W.Word.digits code s.heap s.plan.back s.plan.apart s.twins s.reach words s.plan.far BLOCK are both (omega (arith, c.requires.behind, many)) (omega (arith, c.requires.words, many)) far.over (λ k in_list more. omega (arith, c.requires.twins, many))
      (map number c.deref.result.now) c.deref-2.result.now c.deref-3.result.now c.len.result i v (slice_index (map number c.clear.new.block) i) (slice_index (map number new) i)
      (ap (map number) c.deref.ensures.value) c.deref-2.ensures.value c.deref-3.ensures.value (omega (arith, c.len.ensures, many)) within small (c.unite_steps.ensures.adds i low)) in
      subst (λ xs. Has (slice_index (map number xs) i) v ↔ IsFarMade code (s.heap + i) s.plan v)
      (sym (taken (vec_len s.block) new (drop (length new) s.block.items) long)) made;
}
