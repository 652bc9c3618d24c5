use Rattle.std.proofs.Common.{IfSome, sym, subst}
use Rattle.oct_search.specs.BySets.{AreSetsOf}
use Rattle.oct_search.specs.Cells.{len_of}
use Rattle.oct_search.proofs.search.Search.new.Goals as goal

pub invariant_of-result : goal.invariant_of-result
invariant_of-result g c = record {
  known = c.new.ensures.known c.args.code;
  certain = tt;
  sets = subst (λ s. IfSome s (AreSetsOf c.args.code (len_of c.new.result))) (sym c.new-2.ensures) tt;
}
