use Rattle.std.proofs.Common.{◌≡◌, ◌++◌, ◌∷◌, [], length, subst, sym, arith, ℕ, ◌+◌, ◌<◌, ◌↔◌, map, slice_index, List}
use Rattle.bitsets.specs.Sets.{Has}
use Rattle.bitsets.proofs.Words.{as_many}
use Rattle.oct_mex.proofs.Pushed.{numbers_push}
use Rattle.oct_sets.specs.Plans.{IsOneBefore}
use Rattle.oct_sets.proofs.Words.{each_more}
use Rattle.oct_sets.proofs.pairs.words_of.Goals as goal

pub loop-place-preserved : goal.loop-place-preserved
loop-place-preserved g c =
    let is = c.loop-place.invariant in
    let number = g.W.Word.number in
    let back = c.args.back in
    let old = map number c.loop-place.words.items in
    let more : map number c.push.new.self.items ≡ old ++ number c.split_set.result ∷ [] = numbers_push number c.loop-place.words.items c.push.new.self.items c.split_set.result c.in_ok-push.ensures.items in
    let place = c.loop-place.place in
    let before = λ (k v : ℕ). IsOneBefore c.args.splits.now (map g.T.Cell.number c.args.values.now) k (length c.args.splits.now) v in
    record {
      begun = omega (arith, is.begun);
      len = omega (arith, c.in_ok-push.ensures.len, is.len, is.begun);
      room = omega (arith, is.room, c.in_ok-push.ensures.capacity);
      pairs = subst (λ (xs : List ℕ). (i v : ℕ) → c.args.first + i < place + 1 → Has (slice_index xs (back + i)) v ↔ before (c.args.first + i) v) (sym more)
          (each_more old (number c.split_set.result) c.args.first back place before (omega (arith, is.len, as_many number c.loop-place.words.items)) is.begun is.pairs c.split_set.ensures.set);
    }
