use Rattle.std.proofs.Common.{◌+◌, ◌≤◌, length, map}
use Rattle.oct_bfile.specs.Bfile.{line_of, lines}
use Rattle.oct_bfile.proofs.Listing.{Reading}
use Rattle.oct_bfile.proofs.bfile.check_lines.Given as goal

abbrev pub invariant-loop-text : goal.invariant-loop-text
invariant-loop-text l = record {
  reading : Reading (map line_of (lines l.bytes)) (map line_of (lines l.rest)) l.line l.start l.due;
  counted : l.line + length l.rest ≤ length l.bytes + 1;
}

abbrev pub decreases-loop-text : goal.decreases-loop-text
decreases-loop-text l = length l.rest
