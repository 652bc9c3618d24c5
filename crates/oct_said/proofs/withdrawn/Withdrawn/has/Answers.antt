use Rattle.std.proofs.Common.{◌∙◌}
use Rattle.oct_notes.proofs.Searching.{found_at}
use Rattle.oct_said.proofs.withdrawn.Withdrawn.has.Goals as goal

pub returns : goal.returns
returns g c = c.is_ok.ensures.value ∙ found_at _ _ _ c.args.dot.now _ c.deref.ensures.value c.self.view_is c.self.invariant c.binary_search.ensures.bound c.binary_search.ensures.position
