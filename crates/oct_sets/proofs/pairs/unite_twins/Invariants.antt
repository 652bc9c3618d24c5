use Rattle.std.proofs.Common.{◌≡◌, ℕ, ◌+◌, ◌-◌, ◌<◌, ◌≤◌, ◌⊎◌, ◌↔◌, length, map, slice_index}
use Rattle.bitsets.specs.Sets.{Has}
use Rattle.oct_sets.proofs.pairs.unite_twins.Given as goal

abbrev pub invariant-loop-at : goal.invariant-loop-at
invariant-loop-at g l = record {
  len : length l.words ≡ length l.initial.words;
  from : l.from ≤ l.at;
  apart : l.apart ≤ l.at;
  first : (i : ℕ) → i < l.from → slice_index (map g.W.Word.number l.words) i ≡ slice_index (map g.W.Word.number l.initial.words) i;
  last : (i : ℕ) → l.back ≤ i → slice_index (map g.W.Word.number l.words) i ≡ slice_index (map g.W.Word.number l.initial.words) i;
  twins : (i v : ℕ) → l.from ≤ i → l.apart ≤ i → i < l.at
      → Has (slice_index (map g.W.Word.number l.words) i) v ↔ (Has (slice_index (map g.W.Word.number l.initial.words) (l.back + i)) v ⊎ Has (slice_index (map g.W.Word.number l.initial.words) (l.back + i - l.apart)) v);
}
