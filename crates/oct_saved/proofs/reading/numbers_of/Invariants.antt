use Rattle.std.proofs.Common.{◌≡◌, ◌+◌, ◌*◌, ◌≤◌, ◌++◌, length, vec_capacity, vec_len}
use Rattle.oct_saved.specs.Saved.{AreWords, number_bytes}
use Rattle.oct_saved.proofs.reading.numbers_of.Given as goal

abbrev pub invariant-loop-rest : goal.invariant-loop-rest
invariant-loop-rest g l = record {
  bytes : l.body ≡ number_bytes l.numbers.items ++ l.rest;
  size : 8 * vec_len l.numbers + length l.rest ≡ length l.body;
  words : AreWords l.numbers.items;
  room : length l.body ≤ 8 * vec_capacity l.numbers;
}

abbrev pub decreases-loop-rest : goal.decreases-loop-rest
decreases-loop-rest g l = length l.rest
