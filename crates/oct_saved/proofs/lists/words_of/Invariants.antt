use Rattle.std.proofs.Common.{◌≡◌, ◌*◌, ◌<◌, ◌≤◌, length, map, take, vec_capacity, vec_len}
use Rattle.std.specs.List.{AllWithin}
use Rattle.oct_saved.proofs.lists.words_of.Given as goal

abbrev pub invariant-loop-number : goal.invariant-loop-number
invariant-loop-number g l = record {
  items : map g.T.Word.number l.words.items ≡ take l.number-index l.numbers;
  fit : AllWithin (λ n. n < g.T.Word.bound) l.numbers 0 l.number-index;
  len : vec_len l.words ≡ l.number-index;
  room : 2 * length l.numbers ≤ vec_capacity l.words;
}
