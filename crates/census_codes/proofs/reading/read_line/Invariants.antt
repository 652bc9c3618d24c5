use Rattle.std.proofs.Common.{◌≡◌, length}
use Rattle.oct_bfile.specs.Bfile.{words}
use Rattle.census_codes.specs.Codes.{words_onto}
use Rattle.census_codes.proofs.reading.read_line.Given as goal

abbrev pub invariant-loop-word : goal.invariant-loop-word
invariant-loop-word g l = words_onto l.line l.codes.items (words l.rest) ≡ words_onto l.line l.fn.codes.items (words l.text)

abbrev pub decreases-loop-word : goal.decreases-loop-word
decreases-loop-word g l = length l.rest
