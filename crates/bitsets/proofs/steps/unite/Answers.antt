use Rattle.std.proofs.Common.{◌≡◌, ◌<◌, length, length-set, map, slice_index, slice_set, bit_or, arith, ap₂, inl, inr, subst, sym, ◌∙◌}
use Rattle.std.proofs.lemmas.Bool.{cases_eq}
use Rattle.bitsets.specs.Sets.{Adds, Has}
use Rattle.bitsets.proofs.Bits.{has_or}
use Rattle.bitsets.proofs.Words.{at, set_here, set_there}
use Rattle.bitsets.proofs.steps.unite.Goals as goal

pub loop-at-preserved : goal.loop-at-preserved
loop-at-preserved g c =
    let kept = c.loop-at.invariant in
    let number = g.W.Word.number in
    let k = c.loop-at.at in
    let sets = c.loop-at.sets in
    let others = c.args.others.now in
    let word = c.united.result in
    let old = map number c.args.sets.now in
    let low : k < length sets = omega (arith, c.loop-at-test.true, kept.len) in
    let was : number c.index-sets-at.result ≡ slice_index old k = at number sets k c.index-sets-at.result low c.index-sets-at.is ∙ kept.left k (omega arith) in
    let other : number c.index-others-at.result ≡ slice_index (map number others) k = at number others k c.index-others-at.result (omega (arith, low, kept.len, c.requires)) c.index-others-at.is in
    let here : slice_index (map number (slice_set sets k word)) k ≡ bit_or (slice_index old k) (slice_index (map number others) k) =
    set_here number sets k word low ∙ c.united.ensures ∙ ap₂ bit_or was other in
    record {
      len = length-set sets k word ∙ kept.len;
      done = λ i before. elim (cases_eq i k) [
        | inl e ↦ subst (λ j. slice_index (map number (slice_set sets k word)) j ≡ bit_or (slice_index old j) (slice_index (map number others) j)) (sym e) here
        | inr another ↦ set_there number sets k i word another ∙ kept.done i (omega (arith, before, another))
      ];
      left = λ i after. set_there number sets k i word (λ e. omega (arith, after, e)) ∙ kept.left i (omega (arith, after));
    }

pub returns-clause-adds : goal.returns-clause-adds
returns-clause-adds g c = λ i within.
    let old = slice_index (map g.W.Word.number c.args.sets.now) i in
    let other = slice_index (map g.W.Word.number c.args.others.now) i in
    subst (λ x. Adds old x (Has other)) (sym (c.loop-at.invariant.done i (omega arith))) (has_or old other)
