use Rattle.std.proofs.Common.{◌≡◌, ℕ, ◌+◌, ◌-◌, ◌*◌, ◌<◌, ◌≤◌, ◌↔◌, length, map, slice_index, vec_len, vec_capacity}
use Rattle.bitsets.specs.Sets.{Has}
use Rattle.oct_sets.specs.Plans.{IsOneBefore}
use Rattle.oct_sets.proofs.pairs.words_of.Given as goal

abbrev pub invariant-loop-place : goal.invariant-loop-place
invariant-loop-place g l = record {
  begun : l.first ≤ l.place;
  len : vec_len l.words ≡ l.back + (l.place - l.first);
  room : 2 * l.back ≤ vec_capacity l.words;
  pairs : (i v : ℕ) → l.first + i < l.place → Has (slice_index (map g.W.Word.number l.words.items) (l.back + i)) v ↔ IsOneBefore l.splits (map g.T.Cell.number l.values) (l.first + i) (length l.splits) v;
}
