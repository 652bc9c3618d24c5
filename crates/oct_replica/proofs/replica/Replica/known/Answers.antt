use Rattle.std.proofs.Common.{ap, ◌∙◌}
use Rattle.oct_verify.specs.Filing.{GameBlocks, blocks_in}
use Rattle.oct_verify.specs.Known.{known}
use Rattle.oct_period.specs.GameContent.{ledger_of}
use Rattle.oct_replica.proofs.Beside.{found_is, none_is}
use Rattle.oct_replica.proofs.replica.Replica.known.Goals as goal

pub returns-in-Some-clause-value : goal.returns-in-Some-clause-value
returns-in-Some-clause-value g c =
    c.known.ensures.value
    ∙ ap (λ (h : GameBlocks). known (blocks_in h.blocks)) (c.ledger.ensures ∙ ap ledger_of (found_is c.args.self.now.ops c.args.code c.in-Some.game.now c.in-Some.ensures))

pub returns-in-None-clause-value : goal.returns-in-None-clause-value
returns-in-None-clause-value g c =
    c.known-in-None.ensures.value
    ∙ ap (λ (h : GameBlocks). known (blocks_in h.blocks)) (c.new-ledger.ensures ∙ ap ledger_of (none_is c.args.self.now.ops c.args.code c.in-None.ensures))
