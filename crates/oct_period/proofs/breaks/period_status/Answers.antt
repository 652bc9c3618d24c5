use Rattle.std.proofs.Common.{◌∙◌, arith, ap}
use Rattle.oct_code.specs.Code.{len}
use Rattle.oct_verify.specs.Filing.{blocks_in}
use Rattle.oct_period.proofs.FirstBreaks.{is_refuted, is_proof, valid_later}
use Rattle.oct_period.proofs.Statuses.{refuted_is_first_break, proved_holds}
use Rattle.oct_period.proofs.breaks.period_status.Goals as goal

pub returns-in-Some-clause-refuted : goal.returns-in-Some-clause-refuted
returns-in-Some-clause-refuted g c = λ at is.
    let blocks = blocks_in c.args.ledger.now.blocks in
    refuted_is_first_break blocks c.args.period.now at (is_refuted blocks c.args.period.now _ c.in-Some.at c.known_values-values.ensures.len c.in-Some.ensures ∙ is)

pub returns-in-None-clause-proved : goal.returns-in-None-clause-proved
returns-in-None-clause-proved g c = λ _.
    let blocks = blocks_in c.args.ledger.now.blocks in
    let digits = c.len.ensures.value ∙ ap len c.code.ensures.value in
    proved_holds blocks c.args.period.now (valid_later c.args.period.now c.start.ensures.valid)
    (is_proof blocks c.args.period.now _ c.known_values-values.ensures.len c.in-None.ensures (omega (arith, digits)))
