use Rattle.std.proofs.Common.{◌≡◌, take}
use Rattle.std.specs.List.{flat_map}
use Rattle.census_issue.specs.Finding.{find_line}
use Rattle.census_issue.proofs.finding.find_each.Given as goal

abbrev pub invariant-loop-code : goal.invariant-loop-code
invariant-loop-code l = l.text.items ≡ flat_map (find_line l.form l.held.ops) (take l.code-index l.codes)
