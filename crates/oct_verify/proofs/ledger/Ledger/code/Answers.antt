use Rattle.std.proofs.Common.{sym, subst}
use Rattle.oct_ops.specs.Sets as set
use Rattle.oct_verify.specs.Filing.{AreBlocksOf, GameBlocks}
use Rattle.oct_verify.specs.Kept.{listed}
use Rattle.chunked.specs.Chunked.{chunked}
use Rattle.oct_verify.proofs.Filings.{listed_again}
use Rattle.oct_verify.proofs.ledger.Ledger.code.Goals as goal

pub returns-clause-value : goal.returns-clause-value
returns-clause-value g c = cc

pub returns-clause-game : goal.returns-clause-game
returns-clause-game g c =
    let shelf = c.self.inside.shelf in
    let settling = c.self.invariant.halfway.settling in
    subst (λ (game : GameBlocks). AreBlocksOf game.code (set.listed game.blocks)) c.self.view_is
    (subst (AreBlocksOf shelf.comparer.values.code) (sym (listed_again (listed (chunked shelf.entries)) settling.rising)) (λ k d lt. (settling.fits k d lt).game))
