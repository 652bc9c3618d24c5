use Rattle.std.proofs.Common.{arith, map, take}
use Rattle.std.proofs.lemmas.Grind.{common_steps}
use Rattle.oct_said.proofs.Grown.{said_more}
use Rattle.oct_said.proofs.said.said_by_game.Goals as goal

pub loop-op-preserved : goal.loop-op-preserved
loop-op-preserved g c =
    λ code. grind (arith, common_steps, c.in_ok-put.ensures code, c.loop-op.invariant code, said_more (map (λ op. op.now) (take c.loop-op.op-index c.args.notes.now)) c.op-item.result.now code)
