use Rattle.oct_period.proofs.game.Game.code.Goals as goal

pub returns : goal.returns
returns g c = cc
