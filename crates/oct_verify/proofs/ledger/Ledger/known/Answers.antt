use Rattle.std.proofs.Common.{ap, subst, ◌∙◌}
use Rattle.oct_verify.specs.Filing.{GameBlocks, blocks_in}
use Rattle.oct_verify.specs.Known.{known, IsKnownLength}
use Rattle.oct_verify.proofs.Answered.{known_is, is_known}
use Rattle.oct_verify.proofs.ledger.Ledger.known.Goals as goal

pub returns-clause-value : goal.returns-clause-value
returns-clause-value g c = known_is c.self.inside.shelf c.self.invariant ∙ ap (λ (game : GameBlocks). known (blocks_in game.blocks)) c.self.view_is

pub returns-clause-greatest : goal.returns-clause-greatest
returns-clause-greatest g c = subst (λ (game : GameBlocks). IsKnownLength (blocks_in game.blocks) c.self.inside.shelf.known) c.self.view_is (is_known c.self.inside.shelf c.self.invariant)
