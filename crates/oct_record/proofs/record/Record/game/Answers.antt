use Rattle.std.proofs.Common.{ap, ◌∙◌}
use Rattle.std.specs.Prelude.{unwrap_or}
use Rattle.oct_ops.specs.Operations.{empty}
use Rattle.oct_store.specs.Summary.{of_game}
use Rattle.oct_record.specs.Content.{RecordContent}
use Rattle.oct_record.proofs.record.Record.game.Goals as goal

pub returns : goal.returns
returns g c =
    ap (λ found. unwrap_or found empty) c.get.ensures.value ∙ c.self.invariant.beside.games c.args.code
    ∙ ap (λ (r : RecordContent). of_game r.ops c.args.code) c.self.view_is
