use Rattle.std.proofs.Common.{◌≡◌, ◌+◌, ◌-◌, ◌%◌, Some, sym, ap, ap₂, ◌∙◌, arith, slice_index}
use Rattle.oct_mex.proofs.NimValues.{nim_values-at}
use Rattle.oct_mex.specs.NimValues.{nim_value}
use Rattle.oct_period.proofs.FirstBreaks.{valid_later, valid_period}
use Rattle.oct_period.proofs.HeapValues.{by_claim}
use Rattle.oct_period.proofs.Statuses.{proved_needs}
use Rattle.oct_verify.specs.Filing.{blocks_in}
use Rattle.oct_verify.specs.Known.{known}
use Rattle.oct_period.proofs.values.value_by.Goals as goal

pub returns-clause-value : goal.returns-clause-value
returns-clause-value g c =
    let game = c.args.ledger.now in
    let claim = c.args.period.now in
    let enough = proved_needs (blocks_in game.blocks) claim c.requires.proved.proved in
    let start : c.from-start.result ≡ claim.start = omega (arith, c.from-start.ensures, c.start.ensures.value) in
    let period : c.from.result ≡ claim.period = omega (arith, c.from.ensures, c.period.ensures.value) in
    let some = valid_period claim c.period.ensures.valid in
    let place = c.from-start.result + (c.args.heap - c.from-start.result) % c.from.result in
    ap Some (sym (ap (λ vs. slice_index vs place) c.known_values.ensures.values
    ∙ nim_values-at game.code (known (blocks_in game.blocks)) place (omega (arith, enough, some, c.requires.past))
    ∙ ap₂ (λ s p. nim_value game.code (s + (c.args.heap - s) % p)) start period))

pub returns-clause-right : goal.returns-clause-right
returns-clause-right g c =
    by_claim c.args.ledger.now.code (blocks_in c.args.ledger.now.blocks) c.args.period.now c.args.heap _
    (record { code = c.requires.proved.game; later = valid_later c.args.period.now c.start.ensures.valid }) c.requires.proved.proved c.requires.past (returns-clause-value g c)
