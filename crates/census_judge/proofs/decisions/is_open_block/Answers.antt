use Rattle.std.proofs.Common.{◌<◌, ap, ◌∙◌, arith}
use Rattle.oct_ops.specs.Sets as sets
use Rattle.oct_verify.specs.Filing.{blocks_in}
use Rattle.oct_verify.specs.Known.{known}
use Rattle.census_judge.proofs.Deciding.{far_block}
use Rattle.census_judge.proofs.decisions.is_open_block.Goals as goal

pub returns : goal.returns
returns c =
    let game = c.args.game.now in
    let known_is = c.known.ensures.value ∙ ap (λ l. known (blocks_in l.blocks)) c.ledger.ensures in
    let beyond : known (blocks_in game.blocks) < c.args.block.now.start = omega (arith, known_is, c.start.ensures.value, c.if-start-known.false) in
    far_block (blocks_in game.blocks) (sets.listed game.claims) c.args.block.now c.args.first.now c.is_none.result c.requires beyond c.is_none.ensures
