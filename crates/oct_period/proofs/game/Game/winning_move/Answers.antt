use Rattle.std.proofs.Common.{ap, ◌∙◌}
use Rattle.std.specs.Option.{option_map}
use Rattle.oct_ops.specs.Sets as sets
use Rattle.oct_period.specs.Claims.{Claim}
use Rattle.oct_period.specs.GameContent.{GameContent}
use Rattle.oct_period.specs.Moving.{winning_move_by}
use Rattle.oct_period.specs.Periods.{heap_value_by, position_value_from}
use Rattle.oct_verify.specs.Filing.{blocks_in}
use Rattle.oct_period.proofs.FirstProved.{position_value-first}
use Rattle.oct_period.proofs.game.Game.winning_move.Goals as goal

pub returns-clause-value : goal.returns-clause-value
returns-clause-value g c =
    let game = c.args.self.now in
    let heaps = c.args.heaps.now in
    c.winning_move_by.ensures.value
    ∙ ap (λ (h : GameContent). winning_move_by h.code heaps (position_value_from (heap_value_by h.code (blocks_in h.blocks) (option_map (λ (d : Claim). d.1) c.proved_claim.result)) 0 heaps)) c.self.view_is
    ∙ ap (winning_move_by game.code heaps) (position_value-first (blocks_in game.blocks) (sets.listed game.claims) game.code c.proved_claim.result heaps c.proved_claim.ensures.value)
