use Rattle.std.proofs.Common.{◌≡◌, ℕ, ◌<◌, ◌^◌, ◌↔◌, length, length-set, map, slice_index, slice_set, bit_xor, arith, inl, inr, subst, subst₂, sym, ◌∙◌}
use Rattle.std.proofs.lemmas.Bool.{cases_eq}
use Rattle.bitsets.specs.Sets.{Has}
use Rattle.bitsets.proofs.Words.{at, set_here, set_there}
use Rattle.bitsets.proofs.turning.turn_all.Goals as goal

pub loop-at-preserved : goal.loop-at-preserved
loop-at-preserved g c =
    let kept = c.loop-at.invariant in
    let number = g.W.Word.number in
    let d = g.W.Word.digits in
    let k = c.loop-at.at in
    let sets = c.loop-at.sets in
    let word = c.turned.result in
    let old = map number c.args.sets.now in
    let bit = 2 ^ c.args.bit in
    let low : k < length sets = omega (arith, c.loop-at-test.true, kept.len) in
    let was : number c.index-sets-at.result ≡ slice_index old k = at number sets k c.index-sets-at.result low c.index-sets-at.is ∙ kept.left k (omega arith) in
    let here : (v : ℕ) → v < 2 ^ d → Has (slice_index (map number (slice_set sets k word)) k) v ↔ Has (slice_index old k) (bit_xor v bit) = λ v small.
    subst₂ (λ x y. Has x v ↔ Has y (bit_xor v bit)) (sym (set_here number sets k word low)) was (c.turned.ensures v small) in
    record {
      len = length-set sets k word ∙ kept.len;
      done = λ i v before small. elim (cases_eq i k) [
        | inl e ↦ subst (λ j. Has (slice_index (map number (slice_set sets k word)) j) v ↔ Has (slice_index old j) (bit_xor v bit)) (sym e) (here v small)
        | inr other ↦ subst (λ x. Has x v ↔ Has (slice_index old i) (bit_xor v bit)) (sym (set_there number sets k i word other)) (kept.done i v (omega (arith, before, other)) small)
      ];
      left = λ i after. set_there number sets k i word (λ e. omega (arith, after, e)) ∙ kept.left i (omega (arith, after));
    }
