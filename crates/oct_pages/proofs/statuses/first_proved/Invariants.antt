use Rattle.std.proofs.Common.{◌≡◌, drop}
use Rattle.std.specs.List.{find}
use Rattle.oct_period.specs.Periods.{is_proved}
use Rattle.oct_pages.specs.declared.statuses.PeriodRow.{PeriodRow}
use Rattle.oct_pages.proofs.statuses.first_proved.Given as goal

abbrev pub invariant-loop-row : goal.invariant-loop-row
invariant-loop-row l = find (λ (row : PeriodRow). is_proved row.status) (drop l.row-index l.rows) ≡ find (λ (row : PeriodRow). is_proved row.status) l.rows
