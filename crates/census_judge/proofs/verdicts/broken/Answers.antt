use Rattle.std.proofs.Common.{◌+◌, ◌<◌, arith}
use Rattle.oct_verify.specs.Filing.{blocks_in}
use Rattle.oct_verify.specs.Known.{known}
use Rattle.census_judge.proofs.Judging.{broken_within}
use Rattle.census_judge.proofs.verdicts.broken.Goals as goal

pub value_at-requires : goal.value_at-requires
value_at-requires c =
    let both : c.args.at + c.args.claim.now.period < known (blocks_in c.args.game.now.blocks) = broken_within (blocks_in c.args.game.now.blocks) c.args.claim.now c.args.at c.requires.broken in
    omega arith

pub value_at-requires-2 : goal.value_at-requires-2
value_at-requires-2 c =
    let both : c.args.at + c.args.claim.now.period < known (blocks_in c.args.game.now.blocks) = broken_within (blocks_in c.args.game.now.blocks) c.args.claim.now c.args.at c.requires.broken in
    omega (arith, c.period-period.ensures.value)
