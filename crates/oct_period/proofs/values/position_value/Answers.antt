use Rattle.std.proofs.Common.{◌∙◌}
use Rattle.oct_verify.specs.Filing.{blocks_in}
use Rattle.oct_period.proofs.FirstProved.{position_value-first}
use Rattle.oct_period.proofs.values.position_value.Goals as goal

pub returns-clause-value : goal.returns-clause-value
returns-clause-value g c =
    c.position_value_by.ensures.value
    ∙ position_value-first (blocks_in c.args.ledger.now.blocks) c.args.claims.now c.args.ledger.now.code c.first_proved.result c.args.heaps.now c.first_proved.ensures.value
