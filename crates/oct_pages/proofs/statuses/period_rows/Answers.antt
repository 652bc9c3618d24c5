use Rattle.std.proofs.Common.{◌≡◌, Some, ◌++◌, map, refl, sym, ap, ◌∙◌}
use Rattle.std.proofs.lemmas.List.Elements.{All-rest}
use Rattle.oct_period.specs.Claims.{Claim}
use Rattle.oct_period.specs.Periods.{period_status}
use Rattle.oct_verify.specs.Filing.{blocks_in}
use Rattle.oct_pages.specs.Sheet.{period_row}
use Rattle.oct_pages.specs.declared.statuses.PeriodRow.{PeriodRow}
use Rattle.oct_pages.proofs.Pushing.{one_pushed}
use Rattle.oct_pages.proofs.statuses.period_rows.Goals as goal

pub loop-claim-preserved : goal.loop-claim-preserved
loop-claim-preserved g c =
    let row = period_row (blocks_in c.args.game.now.blocks) in
    let claim : Claim = c.in-Some.claim.now in
    let inside = c.claim.inside in
    let status = c.period_status-status.ensures.value ∙ ap (λ l. period_status (blocks_in l.blocks) inside.period) c.ledger.ensures in
    let made : ◌≡◌ {A = PeriodRow} (record { dot = inside.dot; period = inside.period; status = c.period_status-status.result }) (row claim) =
    (λ i. record { dot = inside.dot; period = inside.period; status = status i }) ∙ ap row c.claim.view_is in
    record {
      rows = one_pushed row (Some claim) claim _ c.next.new.self c.loop-claim.rows.items _ _ refl made c.in_ok-push.ensures.items
          (ap (λ claims. c.loop-claim.rows.items ++ map row claims) (sym c.in-Some.ensures.steps) ∙ c.loop-claim.invariant.rows);
      game = All-rest (λ (d : Claim). d.1.code ≡ c.args.game.now.code) claim c.next.new.self _ c.in-Some.ensures.steps c.loop-claim.invariant.game;
    }
