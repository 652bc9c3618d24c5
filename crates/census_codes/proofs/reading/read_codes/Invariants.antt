use Rattle.std.proofs.Common.{◌≡◌, ◌+◌, ◌≤◌, length}
use Rattle.oct_bfile.specs.Bfile.{lines}
use Rattle.census_codes.specs.Codes.{codes_of, lines_onto}
use Rattle.census_codes.proofs.reading.read_codes.Given as goal

abbrev pub invariant-loop-first : goal.invariant-loop-first
invariant-loop-first g l = record {
  reading : lines_onto l.line l.codes.items (lines l.rest) ≡ codes_of l.text;
  counted : l.line + length l.rest ≤ length l.text + 1;
}

abbrev pub decreases-loop-first : goal.decreases-loop-first
decreases-loop-first g l = length l.rest
