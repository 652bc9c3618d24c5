use Rattle.std.proofs.Common.{Some, ap, length, subst, sym, ◌∙◌, arith}
use Rattle.oct_verify.specs.Filing.{blocks_in}
use Rattle.oct_period.specs.Found.{IsFoundPeriod, IsLeastPeriod}
use Rattle.oct_period.proofs.FoundPeriods.{IsSeen, found_is_none, none_provable, seen_found, seen_least}
use Rattle.oct_period.proofs.found.find_period.Given.{Over}
use Rattle.oct_period.proofs.found.find_period.Goals as goal

-- the nim-values show no period

pub returns-in_err-seen-clause-value : goal.returns-in_err-seen-clause-value
returns-in_err-seen-clause-value g c =
    let ledger = c.args.ledger.now in
    c.from_residual.ensures
    ∙ sym (found_is_none ledger.code (blocks_in ledger.blocks) (omega (arith, c.known_values.ensures.len, c.known_values.ensures.within))
    (none_provable ledger.code (blocks_in ledger.blocks) c.code-code.result (length c.known_values.result.now) c.code-code.ensures.value c.known_values.ensures.len c.in_err-seen.ensures.least))

pub returns-in_err-seen-clause-found : goal.returns-in_err-seen-clause-found
returns-in_err-seen-clause-found g c =
    let ledger = c.args.ledger.now in
    subst (IsFoundPeriod ledger.code (blocks_in ledger.blocks)) (sym c.from_residual.ensures)
    (none_provable ledger.code (blocks_in ledger.blocks) c.code-code.result (length c.known_values.result.now) c.code-code.ensures.value c.known_values.ensures.len c.in_err-seen.ensures.least)

-- they show one

seen_here : (g : Over) (c : goal.In-Ok g) → IsSeen c.args.ledger.now.code (blocks_in c.args.ledger.now.blocks) c.code-code.result (length c.known_values.result.now) c.in_ok-seen.seen.start c.in_ok-seen.seen.period
seen_here g c =
    let seen = c.in_ok-seen.ensures in
    record {
      game = c.code-code.ensures.value;
      count = c.known_values.ensures.len;
      within = c.known_values.ensures.within;
      first = seen.start;
      some = seen.period;
      enough = seen.shown;
      earliest = seen.earliest;
      least = seen.least;
      holds = seen.holds;
    }

pub returns-clause-value : goal.returns-clause-value
returns-clause-value g c =
    let ledger = c.args.ledger.now in
    ap Some c.in-Ok.ensures.ok
    ∙ sym (seen_found ledger.code (blocks_in ledger.blocks) c.code-code.result (length c.known_values.result.now) c.in_ok-seen.seen.start c.in_ok-seen.seen.period (seen_here g c))

pub returns-clause-found : goal.returns-clause-found
returns-clause-found g c =
    let ledger = c.args.ledger.now in
    subst (IsLeastPeriod ledger.code (blocks_in ledger.blocks)) (sym c.in-Ok.ensures.ok)
    (seen_least ledger.code (blocks_in ledger.blocks) c.code-code.result (length c.known_values.result.now) c.in_ok-seen.seen.start c.in_ok-seen.seen.period (seen_here g c))
