use Rattle.std.proofs.Common.{◌≡◌, ◌-◌, length, map}
use Rattle.std.specs.List.{range_with_len}
use Rattle.oct_bfile.specs.Bfile.{Bfile}
use Rattle.census_issue.specs.Claiming.{block_at, block_count, claimed_by, with_blocks}
use Rattle.census_issue.proofs.claiming.claim_values.Given as goal

abbrev pub invariant-loop-place : goal.invariant-loop-place
invariant-loop-place l =
    let file : Bfile = record { start = l.file.start; values = l.file.values.items } in
    claimed_by l.fn.said l.code file
    ≡ with_blocks (record { replica = l.said; first = l.first; last = l.last }) (map (block_at l.code file) (range_with_len l.place (block_count (length l.file.values.items) - l.place)))
