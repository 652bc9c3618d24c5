use Rattle.std.proofs.Common.{sym, subst, arith}
use Rattle.std.specs.List.{Contains}
use Rattle.oct_search.proofs.by_sets.reach_of.Goals as goal

pub returns : goal.returns
returns g c = record {
  most = λ h is. let most = c.greatest.ensures.most h (subst (λ heaps. Contains heaps h) (sym c.deref.ensures.value) is) in omega (arith, most);
}
