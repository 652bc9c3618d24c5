use Rattle.std.proofs.Common.{◌≡◌, None, ap, subst, sym, ◌∙◌}
use Rattle.std.specs.Prelude.{unwrap_or}
use Rattle.std.proofs.lemmas.Result.{IfErr-weaker, IfOk-weaker, err_from_is_err_and}
use Rattle.oct_period.specs.GameContent.{ledger_of}
use Rattle.oct_period.specs.Computing.{compute_fault, next_block}
use Rattle.oct_period.specs.declared.computing.ComputeError.TheVariants.{OutOfMemory}
use Rattle.oct_verify.specs.Filing.{GameBlocks, blocks_in}
use Rattle.oct_verify.specs.Known.{known}
use Rattle.census_issue.specs.Issuing.{computed}
use Rattle.census_state.specs.Steps.{because}
use Rattle.census_state.specs.declared.fault.Fault.TheVariants as fault
use Rattle.census_state.proofs.Stepping.{allowed, stopped, then_with}
use Rattle.census_issue.proofs.Stepping.{not_computed}
use Rattle.census_issue.proofs.issuing.compute.Goals as goal

pub returns-in_err-block-clause-err : goal.returns-in_err-block-clause-err
returns-in_err-block-clause-err c =
    let here = c.ledger.ensures ∙ ap ledger_of c.in_ok-game.ensures in
    let error = c.in_err-block.ensures.error ∙ ap (λ (h : GameBlocks). unwrap_or (compute_fault (known (blocks_in h.blocks)) c.args.count) OutOfMemory) here in
    let p = err_from_is_err_and c.from_residual-in_err-block.result c.from_residual-in_err-block.ensures.1 in
    rw (p.1, p.2) (λ other. then_with _ _ _ c.in_ok-said.ensures.ok ∙ then_with _ _ _ (ap (because fault.Code) (sym c.read_code.ensures ∙ c.in_ok-code.was)) ∙ stopped (computed c.in_ok-said.said c.in_ok-code.code c.args.count) _ _ (not_computed _ _ _ error other))

pub returns-clause-ok : goal.returns-clause-ok
returns-clause-ok c =
    let here = c.ledger.ensures ∙ ap ledger_of c.in_ok-game.ensures in
    let accepted = subst (λ (h : GameBlocks). compute_fault (known (blocks_in h.blocks)) c.args.count ≡ None) here c.in_ok-block.ensures.accepted in
    let block = c.in_ok-block.ensures.ok ∙ ap (λ (h : GameBlocks). next_block h.code (blocks_in h.blocks) c.args.count) here in
    IfOk-weaker c.issue.result _ _ (λ reply done. then_with _ _ _ c.in_ok-said.ensures.ok ∙ then_with _ _ _ (ap (because fault.Code) (sym c.read_code.ensures ∙ c.in_ok-code.was)) ∙ then_with _ _ _ (allowed _ _ _ _ accepted block) ∙ done) c.issue.ensures.ok

pub returns-clause-err : goal.returns-clause-err
returns-clause-err c =
    let here = c.ledger.ensures ∙ ap ledger_of c.in_ok-game.ensures in
    let accepted = subst (λ (h : GameBlocks). compute_fault (known (blocks_in h.blocks)) c.args.count ≡ None) here c.in_ok-block.ensures.accepted in
    let block = c.in_ok-block.ensures.ok ∙ ap (λ (h : GameBlocks). next_block h.code (blocks_in h.blocks) c.args.count) here in
    IfErr-weaker c.issue.result _ _ (λ e done other. then_with _ _ _ c.in_ok-said.ensures.ok ∙ then_with _ _ _ (ap (because fault.Code) (sym c.read_code.ensures ∙ c.in_ok-code.was)) ∙ then_with _ _ _ (allowed _ _ _ _ accepted block) ∙ done other) c.issue.ensures.err
