use Rattle.std.proofs.Common.{rules, ◌≡◌, ap, ◌∙◌}
use Rattle.std.specs.Prelude.{option_map}
use Rattle.std.specs.List.{find}
use Rattle.oct_mex.specs.NimValues.{nim_values}
use Rattle.oct_ops.specs.Sets as sets
use Rattle.oct_period.specs.Claims.{Claim, first_proved}
use Rattle.oct_period.specs.Periods.{is_proved}
use Rattle.oct_verify.specs.Filing.{blocks_in}
use Rattle.oct_verify.specs.Known.{known}
use Rattle.oct_pages.specs.Sheet.{claim_of}
use Rattle.oct_pages.specs.declared.statuses.PeriodRow.{PeriodRow}
use Rattle.oct_pages.proofs.SheetLaws.{first_row}
use Rattle.oct_pages.proofs.game.GameSheet.of_game.Goals as goal

pub block_rows-requires-clause-first : goal.block_rows-requires-clause-first
block_rows-requires-clause-first g c =
    let game = c.args.game.now in
    c.first_proved-claim.ensures
    ∙ ap (λ rows. option_map claim_of (find (λ (row : PeriodRow). is_proved row.status) rows)) (c.deref.ensures.value ∙ c.in_ok-periods.ensures)
    ∙ first_row (blocks_in game.blocks) (sets.listed game.claims)

pub returns : goal.returns
returns g c =
    let game = c.args.game.now in
    let proved : c.first_proved-claim.result ≡ first_proved (blocks_in game.blocks) (sets.listed game.claims) =
    c.first_proved-claim.ensures
    ∙ ap (λ rows. option_map claim_of (find (λ (row : PeriodRow). is_proved row.status) rows)) (c.deref.ensures.value ∙ c.in_ok-periods.ensures)
    ∙ first_row (blocks_in game.blocks) (sets.listed game.claims) in
    let values = c.known_values.ensures.values ∙ ap (λ l. nim_values l.code (known (blocks_in l.blocks))) c.ledger.ensures in
    let mapped : c.map.result ≡ option_map (λ (p : Claim). p.1) c.first_proved-claim.result = search rules in
    λ i. record {
      code = c.code.ensures i;
      values = values i;
      blocks = c.in_ok-blocks.ensures i;
      periods = c.in_ok-periods.ensures i;
      proved = (mapped ∙ ap (option_map (λ (p : Claim). p.1)) proved) i;
    }
