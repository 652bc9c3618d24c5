use Rattle.std.proofs.Common.{◌≡◌, ◌+◌, ◌-◌, ◌<◌, ◌⊎◌, ◌↔◌, length, length-set, map, slice_index, slice_set, bit_or, arith, ap₂, inl, inr, subst, sym, ◌∙◌}
use Rattle.std.proofs.lemmas.Bool.{cases_eq}
use Rattle.bitsets.specs.Sets.{Has}
use Rattle.bitsets.proofs.Bits.{has_or}
use Rattle.bitsets.proofs.Words.{at, set_here, set_there}
use Rattle.oct_sets.proofs.pairs.unite_twins.Goals as goal

pub loop-at-preserved : goal.loop-at-preserved
loop-at-preserved g c =
    let kept = c.loop-at.invariant in
    let number = g.W.Word.number in
    let back = c.args.back in
    let apart = c.args.apart in
    let k = c.loop-at.at in
    let words = c.loop-at.words in
    let given = map number c.args.words.now in
    let word = c.united.result in
    let low : back + k < length words = omega (arith, c.loop-at-test.true, kept.len) in
    let less : k < back = omega (arith, low, kept.len, c.requires.most) in
    let first : number c.index-words-back.result ≡ slice_index given (back + k) = at number words (back + k) c.index-words-back.result low c.index-words-back.is ∙ kept.last (back + k) (omega arith) in
    let second : number c.index-words-back-in-loop-at.result ≡ slice_index given (back + k - apart) = at number words (back + k - apart) c.index-words-back-in-loop-at.result (omega (arith, low)) c.index-words-back-in-loop-at.is ∙ kept.last (back + k - apart) (omega (arith, kept.apart)) in
    let is : number word ≡ bit_or (slice_index given (back + k)) (slice_index given (back + k - apart)) = c.united.ensures ∙ ap₂ bit_or first second in
    record {
      len = length-set words k word ∙ kept.len;
      from = omega (arith, kept.from);
      apart = omega (arith, kept.apart);
      first = λ i before. set_there number words k i word (omega (arith, before, kept.from)) ∙ kept.first i before;
      last = λ i behind. set_there number words k i word (omega (arith, behind, less)) ∙ kept.last i behind;
      twins = λ i v from far before. elim (cases_eq i k) [
        | inl e ↦
            subst (λ j. Has (slice_index (map number (slice_set words k word)) j) v ↔ (Has (slice_index given (back + j)) v ⊎ Has (slice_index given (back + j - apart)) v)) (sym e)
            (subst (λ w. Has w v ↔ (Has (slice_index given (back + k)) v ⊎ Has (slice_index given (back + k - apart)) v)) (sym (set_here number words k word (omega (arith, low)) ∙ is))
            (has_or (slice_index given (back + k)) (slice_index given (back + k - apart)) v))
        | inr other ↦
            subst (λ w. Has w v ↔ (Has (slice_index given (back + i)) v ⊎ Has (slice_index given (back + i - apart)) v)) (sym (set_there number words k i word other)) (kept.twins i v from far (omega (arith, before, other)))
      ];
    }
