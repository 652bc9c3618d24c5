use Rattle.std.proofs.Common.{◌≡◌, ◌<◌, length, length-set, map, slice_index, slice_set, arith, inl, inr, subst, sym, ◌∙◌}
use Rattle.std.proofs.lemmas.Bool.{cases_eq}
use Rattle.bitsets.proofs.Words.{set_here, set_there}
use Rattle.oct_sets.proofs.sets_of.clear.Goals as goal

pub loop-at-preserved : goal.loop-at-preserved
loop-at-preserved g c =
    let kept = c.loop-at.invariant in
    let number = g.W.Word.number in
    let k = c.loop-at.at in
    let block = c.loop-at.block in
    let word = c.empty.result in
    let low : k < length block = omega (arith, c.loop-at-test.true, kept.len) in
    record {
      len = length-set block k word ∙ kept.len;
      none = λ i before. elim (cases_eq i k) [
        | inl e ↦ subst (λ j. slice_index (map number (slice_set block k word)) j ≡ 0) (sym e) (set_here number block k word low ∙ c.empty.ensures)
        | inr other ↦ set_there number block k i word other ∙ kept.none i (omega (arith, before, other))
      ];
    }
