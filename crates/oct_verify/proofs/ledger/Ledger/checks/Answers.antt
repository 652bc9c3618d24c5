use Rattle.std.proofs.Common.{ap, count_by, nat_le, ◌∙◌}
use Rattle.oct_ops.specs.Sets as set
use Rattle.oct_verify.specs.Filing.{Filing, GameBlocks, blocks_in}
use Rattle.oct_verify.specs.Known.{known}
use Rattle.oct_verify.proofs.Answered.{checks_are}
use Rattle.oct_verify.proofs.ledger.Ledger.checks.Goals as goal

pub returns : goal.returns
returns g c =
    checks_are c.self.inside.shelf c.self.invariant
    ∙ ap (λ (game : GameBlocks). count_by (λ (f : Filing). nat_le f.1.start (known (blocks_in game.blocks))) (set.listed game.blocks)) c.self.view_is
