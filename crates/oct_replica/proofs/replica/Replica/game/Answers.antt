use Rattle.std.proofs.Common.{ap, ◌∙◌}
use Rattle.oct_replica.specs.Beside.{game_in}
use Rattle.oct_record.specs.Content.{RecordContent}
use Rattle.oct_replica.proofs.replica.Replica.game.Goals as goal

pub returns : goal.returns
returns g c = c.get.ensures.value ∙ c.self.invariant c.args.code ∙ ap (λ (r : RecordContent). game_in r.ops c.args.code) c.self.view_is
