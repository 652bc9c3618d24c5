use Rattle.std.proofs.Common.{◌≡◌, None, Some, sym, ap, ◌∙◌}
use Rattle.std.specs.List.{find}
use Rattle.std.specs.Option.{option_map}
use Rattle.oct_ops.specs.Sets as sets
use Rattle.oct_period.specs.Claims.{Claim, claims_in}
use Rattle.oct_period.specs.GameContent.{GameContent}
use Rattle.oct_period.specs.Periods.{heap_value_by, is_proved, period_status}
use Rattle.oct_verify.specs.Filing.{blocks_in}
use Rattle.oct_period.proofs.HeapValues.{heap_by_blocks}
use Rattle.oct_period.proofs.FirstProved.{heap_value-first}
use Rattle.oct_period.proofs.game.Game.heap_value.Goals as goal

pub returns-clause-value : goal.returns-clause-value
returns-clause-value g c =
    let game = c.args.self.now in
    c.heap_value_by-2.ensures.value
    ∙ ap (λ (h : GameContent). heap_value_by h.code (blocks_in h.blocks) (option_map (λ (d : Claim). d.1) c.proved_claim.result) c.args.heap) c.self.view_is
    ∙ heap_value-first (blocks_in game.blocks) (sets.listed game.claims) game.code c.proved_claim.result c.args.heap c.proved_claim.ensures.value

-- the blocks alone give the nim-value
pub returns-in-Some-clause-value : goal.returns-in-Some-clause-value
returns-in-Some-clause-value g c =
    let game = c.args.self.now in
    let blocks = blocks_in game.blocks in
    let by : Some c.in-Some.value ≡ heap_value_by game.code blocks None c.args.heap = c.in-Some.ensures.value ∙ ap (λ (h : GameContent). heap_value_by h.code (blocks_in h.blocks) None c.args.heap) c.self.view_is in
    sym (heap_by_blocks game.code blocks (find (λ p. is_proved (period_status blocks p)) (claims_in game.claims)) c.args.heap c.in-Some.value (sym by))
