use Rattle.std.proofs.Common.{◌≡◌, ◌+◌, ◌*◌, ◌-◌, ◌≤◌, ◌↔◌, ℕ, List, length, map, slice_index, slice_index_or, sym, vec_len, subst, ap, ◌∙◌, arith, refl}
use Rattle.bitsets.specs.Sets.{Has}
use Rattle.oct_mex.proofs.Cells.{as_many}
use Rattle.oct_mex.proofs.Pushed.{numbers_push}
use Rattle.oct_sets.specs.Plans.{IsOneBefore, IsSplitValue}
use Rattle.oct_sets.specs.Sets.{ArePairs, AreTwins}
use Rattle.oct_sets.specs.declared.sets_of.SetsOf.{SetsOf}
use Rattle.oct_sets.proofs.Words.{last_words, no_twins, one_before, pairs_last, pairs_more, twins_kept}
use Rattle.oct_sets.proofs.sets_of.SetsOf.add_pair.Goals.{then-len-back, else-len-back}
use Rattle.oct_sets.proofs.sets_of.SetsOf.add_pair.Goals as goal

pub returns-clause-pairs : goal.returns-clause-pairs
returns-clause-pairs g c code few long splits are last =
    let old = c.args.self.now in
    let back = old.plan.back in
    let values = map g.T.Cell.number c.args.last.now in
    let size : length values ≡ length c.args.last.now = as_many g.T.Cell.number c.args.last.now in
    let number = g.W.Word.number in
    let words = map number old.words.items in
    let many : length words ≡ vec_len old.words = omega (arith, as_many number old.words.items) in
    let one = c.split_set.result in
    let kept : (length c.if-len-back.self.words.items ≤ back + old.heap) × ArePairs code old.heap back (map number c.if-len-back.self.words.items) × (c.if-len-back.self.splits.items ≡ old.splits.items) = elim c.if-len-back.branch [
      | then-len-back w ↦
          let less = w.keep_last.new.words.items in
          subst (λ (s : SetsOf g.row.W.Denot g.row.A.Denot). (length s.words.items ≤ back + old.heap) × ArePairs code old.heap back (map number s.words.items) × (s.splits.items ≡ old.splits.items)) (sym w.self-is) (
            omega (arith, few, w.keep_last.ensures.len, c.requires.words),
            pairs_last code old.heap back old.reach words (map number less) (omega (arith, few, many)) (omega (arith, w.keep_last.ensures.len, as_many number less)) (omega (arith, c.requires.words, many))
                (λ i low. last_words number old.words.items less one (vec_len old.words - old.reach + i) (back + i) (omega (arith, low, w.keep_last.ensures.len)) (omega (arith, low, c.requires.words)) (w.keep_last.ensures.last i one low)
                ∙ ap (λ k. slice_index words (k - old.reach + i)) (sym many)) are,
            refl,
          )
      | else-len-back w ↦ subst (λ (s : SetsOf g.row.W.Denot g.row.A.Denot). (length s.words.items ≤ back + old.heap) × ArePairs code old.heap back (map number s.words.items) × (s.splits.items ≡ old.splits.items)) (sym w.self-is) (omega (arith, few), are, refl)
    ] in
    let place = length c.args.last.now - 1 in
    let same = c.deref.ensures.value ∙ kept.2 in
    let word : (v : ℕ) → Has (number one) v ↔ IsSplitValue code old.heap v = λ v.
    let is = one_before code (old.heap + 1) old.heap place old.splits.items values splits last (omega (arith, long, size)) (omega (arith, c.requires.some, size)) (omega (arith, c.requires.some, size))
    (λ k low. let less = c.requires.splits k low in omega (arith, less)) v in
    let told = subst (λ (xs : List ℕ). Has (number one) v ↔ IsOneBefore xs values place (length xs) v) same (c.split_set.ensures.set v) in
    ((λ h. is.0 (told.0 h)), (λ s. told.1 (is.1 s))) in
    let mid = c.if-len-back.self.words.items in
    subst (ArePairs code (old.heap + 1) back) (sym (numbers_push number mid c.push_reserved.new.self.items one c.push_reserved.ensures.items))
    (pairs_more code old.heap back (number one) (map number mid) (omega (arith, kept.0, as_many number mid)) kept.1 word)

pub returns-clause-twins : goal.returns-clause-twins
returns-clause-twins g c code few are =
    let old = c.args.self.now in
    let back = old.plan.back in
    let apart = old.plan.apart in
    let number = g.W.Word.number in
    let one = c.split_set.result in
    let kept : (c.if-len-back.self.twins ≤ length c.if-len-back.self.words.items) × AreTwins code old.heap back apart c.if-len-back.self.twins (map number c.if-len-back.self.words.items) = elim c.if-len-back.branch [
      | then-len-back w ↦ subst (λ (s : SetsOf g.row.W.Denot g.row.A.Denot). (s.twins ≤ length s.words.items) × AreTwins code old.heap back apart s.twins (map number s.words.items)) (sym w.self-is)
          (omega arith, no_twins code old.heap back apart (map number w.keep_last.new.words.items))
      | else-len-back w ↦ subst (λ (s : SetsOf g.row.W.Denot g.row.A.Denot). (s.twins ≤ length s.words.items) × AreTwins code old.heap back apart s.twins (map number s.words.items)) (sym w.self-is) (omega (arith, c.requires.twins), are)
    ] in
    let mid = c.if-len-back.self.words.items in
    subst (AreTwins code (old.heap + 1) back apart c.if-len-back.self.twins) (sym (numbers_push number mid c.push_reserved.new.self.items one c.push_reserved.ensures.items))
    (twins_kept code old.heap back apart c.if-len-back.self.twins (number one) (map number mid) (omega (arith, kept.0, as_many number mid)) kept.1)
