use Rattle.std.proofs.Common.{◌≡◌, ◌++◌, map}
use Rattle.oct_code.specs.Code.{Code}
use Rattle.oct_ops.specs.Operations.{Operations, listed}
use Rattle.oct_pages.specs.Catalogue.{games}
use Rattle.oct_pages.proofs.codes.codes_of.Given as goal

abbrev pub invariant-loop-code : goal.invariant-loop-code
invariant-loop-code g l = l.codes.items ++ map (λ (e : Code × Operations). e.0) l.code-iterator ≡ games (listed l.fn.said.ops)
