use Rattle.oct_period.proofs.game.Game.block_status.Goals as goal

pub returns : goal.returns
returns g c = cc
