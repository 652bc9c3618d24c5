use Rattle.std.proofs.Common.{ap, ◌∙◌}
use Rattle.oct_mex.proofs.Pushed.{value_at}
use Rattle.oct_mex.specs.NimValues.{nim_values}
use Rattle.oct_verify.specs.Filing.{blocks_in}
use Rattle.oct_verify.specs.Known.{known}
use Rattle.census_judge.proofs.verdicts.value_at.Goals as goal

pub returns : goal.returns
returns c =
    value_at c.args.game.now.code (known (blocks_in c.args.game.now.blocks)) c.args.heap c.known_values.result.now
    (c.known_values.ensures.values ∙ ap (λ l. nim_values l.code (known (blocks_in l.blocks))) c.ledger.ensures) c.requires
