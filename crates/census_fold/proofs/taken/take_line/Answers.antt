use Rattle.std.proofs.Common.{sym, ◌∙◌}
use Rattle.census_fold.proofs.DigitPairs.{not_spelled}
use Rattle.census_fold.proofs.Taking.{refused_once, untaken}
use Rattle.census_fold.proofs.taken.take_line.Goals as goal

pub returns-then-not-branch-clause-taken : goal.returns-then-not-branch-clause-taken
returns-then-not-branch-clause-taken g c =
    untaken c.args.intake.now.held c.args.line.now (not_spelled c.args.line.now (sym c.if-not-branch.true ∙ c.in_ok-decode_text.ensures.spelled))

pub returns-then-not-branch-clause-counted : goal.returns-then-not-branch-clause-counted
returns-then-not-branch-clause-counted g c =
    refused_once c.args.line.now c.args.intake.now.refused (not_spelled c.args.line.now (sym c.if-not-branch.true ∙ c.in_ok-decode_text.ensures.spelled))
