use Rattle.std.proofs.Common.{◌≡◌, ◌++◌, drop}
use Rattle.census_codes.specs.Codes.{code_lines}
use Rattle.census_codes.proofs.writing.code_lines.Given as goal

abbrev pub invariant-loop-code : goal.invariant-loop-code
invariant-loop-code g l = l.text.items ++ code_lines (drop l.code-index l.codes) ≡ code_lines l.codes
