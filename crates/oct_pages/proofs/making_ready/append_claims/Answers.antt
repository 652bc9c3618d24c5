use Rattle.std.proofs.Common.{◌++◌, map, ap, ◌∙◌}
use Rattle.std.specs.Prelude.{option_map}
use Rattle.std.specs.List.{concat, find}
use Rattle.oct_ops.specs.Sets as sets
use Rattle.oct_period.specs.Periods.{is_proved}
use Rattle.oct_verify.specs.Filing.{blocks_in}
use Rattle.oct_pages.specs.Sheet.{claim_of, period_row_text}
use Rattle.oct_pages.specs.declared.statuses.PeriodRow.{PeriodRow}
use Rattle.oct_pages.proofs.Pagers.{all_seen}
use Rattle.oct_pages.proofs.SheetLaws.{first_row}
use Rattle.oct_pages.proofs.making_ready.append_claims.Goals as goal

pub returns-clause-lines : goal.returns-clause-lines
returns-clause-lines g c =
    let old = c.args.out.now.items in
    c.in_ok-show_each.ensures.ok.text ∙ ap (λ t. old ++ t) (all_seen (map period_row_text c.deref.result.now))
    ∙ ap (λ rows. old ++ concat (map period_row_text rows)) (c.deref.ensures.value ∙ c.in_ok-periods.ensures)

pub returns-clause-first : goal.returns-clause-first
returns-clause-first g c =
    let game = c.args.game.now in
    c.first_proved.ensures
    ∙ ap (λ rows. option_map claim_of (find (λ (row : PeriodRow). is_proved row.status) rows)) (c.deref-2.ensures.value ∙ c.in_ok-periods.ensures)
    ∙ first_row (blocks_in game.blocks) (sets.listed game.claims)
