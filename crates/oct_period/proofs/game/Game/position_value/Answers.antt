use Rattle.std.proofs.Common.{◌≡◌, None, Ok, sym, ap, ◌∙◌}
use Rattle.std.specs.List.{find}
use Rattle.std.specs.Option.{option_map}
use Rattle.oct_ops.specs.Sets as sets
use Rattle.oct_period.specs.Claims.{Claim, claims_in}
use Rattle.oct_period.specs.GameContent.{GameContent}
use Rattle.oct_period.specs.Periods.{heap_value_by, is_proved, period_status, position_value_from}
use Rattle.oct_verify.specs.Filing.{blocks_in}
use Rattle.oct_period.proofs.HeapValues.{position_by_blocks}
use Rattle.oct_period.proofs.FirstProved.{position_value-first}
use Rattle.oct_period.proofs.game.Game.position_value.Goals as goal

pub returns-clause-value : goal.returns-clause-value
returns-clause-value g c =
    let game = c.args.self.now in
    c.position_value_by-2.ensures.value
    ∙ ap (λ (h : GameContent). position_value_from (heap_value_by h.code (blocks_in h.blocks) (option_map (λ (d : Claim). d.1) c.proved_claim.result)) 0 c.args.heaps.now) c.self.view_is
    ∙ position_value-first (blocks_in game.blocks) (sets.listed game.claims) game.code c.proved_claim.result c.args.heaps.now c.proved_claim.ensures.value

-- the blocks alone give the nim-values
pub returns-in-Ok-clause-value : goal.returns-in-Ok-clause-value
returns-in-Ok-clause-value g c =
    let game = c.args.self.now in
    let blocks = blocks_in game.blocks in
    let by : Ok c.in-Ok.value ≡ position_value_from (heap_value_by game.code blocks None) 0 c.args.heaps.now = c.in-Ok.ensures.value ∙ ap (λ (h : GameContent). position_value_from (heap_value_by h.code (blocks_in h.blocks) None) 0 c.args.heaps.now) c.self.view_is in
    sym (position_by_blocks game.code blocks (find (λ p. is_proved (period_status blocks p)) (claims_in game.claims)) 0 c.args.heaps.now c.in-Ok.value (sym by))
