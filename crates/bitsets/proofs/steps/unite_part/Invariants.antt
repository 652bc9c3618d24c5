use Rattle.std.proofs.Common.{◌≡◌, ℕ, ◌+◌, ◌^◌, ◌<◌, length, map, slice_index}
use Rattle.bitsets.proofs.Framing.{InFrame}
use Rattle.bitsets.proofs.steps.unite_part.Given as goal

abbrev pub invariant-loop-at : goal.invariant-loop-at
invariant-loop-at g l = record {
  small : l.frame < 2 ^ g.W.Word.digits;
  len : length l.block ≡ length l.initial.block;
  adds : (i : ℕ) → i < length l.initial.block
      → InFrame g.W.Word.digits (map g.W.Word.number l.sets) (l.place + i) l.offsets l.values (slice_index (map g.W.Word.number l.initial.block) i) (slice_index (map g.W.Word.number l.block) i) l.frame l.at;
}
