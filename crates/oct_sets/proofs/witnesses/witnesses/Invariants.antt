use Rattle.std.proofs.Common.{◌≡◌, ◌+◌, ◌<◌, ◌≤◌, length, map, slice_index, vec_len}
use Rattle.std.specs.List.{All}
use Rattle.oct_sets.proofs.witnesses.witnesses.Given as goal

abbrev pub invariant-loop : goal.invariant-loop
invariant-loop g l = record {
  alone : All (λ h. (64 ≤ h) × (h < length l.small) × (slice_index (map g.T.Cell.number l.small) h < 64)) l.alone.items;
  twins : All (λ h. (64 ≤ h) × (h + l.known.apart < length l.small) × (slice_index (map g.T.Cell.number l.small) h < 64) × (slice_index (map g.T.Cell.number l.small) (h + l.known.apart) ≡ slice_index (map g.T.Cell.number l.small) h)) l.twins.items;
  few : vec_len l.alone + vec_len l.twins ≤ 64;
}
