use Rattle.std.proofs.Common.{◌≡◌, ◌++◌, take}
use Rattle.std.specs.Prelude.{codes}
use Rattle.std.specs.List.{flat_map}
use Rattle.oct_text.specs.Words.{dot_text}
use Rattle.oct_log.proofs.said.append_dots.Given as goal

abbrev pub invariant-loop-dot : goal.invariant-loop-dot
invariant-loop-dot g l = l.out.items ≡ l.fn.out.items ++ (codes "takes back" ++ flat_map (λ d. codes " " ++ dot_text d) (take l.dot-index l.dots))
