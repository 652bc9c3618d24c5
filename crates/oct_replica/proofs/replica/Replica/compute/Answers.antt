use Rattle.std.proofs.Common.{◌≡◌, None, IfErr, IfOk, OnOk, ap, subst, ◌∙◌}
use Rattle.std.specs.Option.{unwrap_or}
use Rattle.oct_verify.specs.Filing.{GameBlocks, blocks_in}
use Rattle.oct_verify.specs.Known.{known}
use Rattle.oct_period.specs.GameContent.{ledger_of}
use Rattle.oct_period.specs.Computing.{compute_fault, next_block}
use Rattle.oct_period.specs.declared.computing.ComputeError.TheVariants.{OutOfMemory}
use Rattle.oct_replica.proofs.Beside.{found_is, none_is}
use Rattle.oct_replica.proofs.replica.Replica.compute.Goals as goal

-- where nothing is held of the game, its ledger is the new one

pub returns-in-None-clause-ok : goal.returns-in-None-clause-ok
returns-in-None-clause-ok g c =
    subst (λ (h : GameBlocks). IfOk c.next_block-in-None.result (λ block. block ≡ next_block h.code (blocks_in h.blocks) c.args.count))
    (c.new-ledger.ensures ∙ ap ledger_of (none_is c.args.self.now.ops c.args.code c.in-None.ensures)) c.next_block-in-None.ensures.ok

pub returns-in-None-clause-accepted : goal.returns-in-None-clause-accepted
returns-in-None-clause-accepted g c =
    subst (λ (h : GameBlocks). OnOk c.next_block-in-None.result (compute_fault (known (blocks_in h.blocks)) c.args.count ≡ None))
    (c.new-ledger.ensures ∙ ap ledger_of (none_is c.args.self.now.ops c.args.code c.in-None.ensures)) c.next_block-in-None.ensures.accepted

pub returns-in-None-clause-error : goal.returns-in-None-clause-error
returns-in-None-clause-error g c =
    subst (λ (h : GameBlocks). IfErr c.next_block-in-None.result (λ error. error ≡ unwrap_or (compute_fault (known (blocks_in h.blocks)) c.args.count) OutOfMemory))
    (c.new-ledger.ensures ∙ ap ledger_of (none_is c.args.self.now.ops c.args.code c.in-None.ensures)) c.next_block-in-None.ensures.error

pub returns-in-None-clause-right : goal.returns-in-None-clause-right
returns-in-None-clause-right g c = c.next_block-in-None.ensures.right

-- and else it is the game's

pub returns-in-Some-clause-ok : goal.returns-in-Some-clause-ok
returns-in-Some-clause-ok g c =
    subst (λ (h : GameBlocks). IfOk c.next_block.result (λ block. block ≡ next_block h.code (blocks_in h.blocks) c.args.count))
    (c.ledger.ensures ∙ ap ledger_of (found_is c.args.self.now.ops c.args.code c.in-Some.game.now c.in-Some.ensures)) c.next_block.ensures.ok

pub returns-in-Some-clause-right : goal.returns-in-Some-clause-right
returns-in-Some-clause-right g c = c.next_block.ensures.right

pub returns-in-Some-clause-accepted : goal.returns-in-Some-clause-accepted
returns-in-Some-clause-accepted g c =
    subst (λ (h : GameBlocks). OnOk c.next_block.result (compute_fault (known (blocks_in h.blocks)) c.args.count ≡ None))
    (c.ledger.ensures ∙ ap ledger_of (found_is c.args.self.now.ops c.args.code c.in-Some.game.now c.in-Some.ensures)) c.next_block.ensures.accepted

pub returns-in-Some-clause-error : goal.returns-in-Some-clause-error
returns-in-Some-clause-error g c =
    subst (λ (h : GameBlocks). IfErr c.next_block.result (λ error. error ≡ unwrap_or (compute_fault (known (blocks_in h.blocks)) c.args.count) OutOfMemory))
    (c.ledger.ensures ∙ ap ledger_of (found_is c.args.self.now.ops c.args.code c.in-Some.game.now c.in-Some.ensures)) c.next_block.ensures.error
