use Rattle.std.proofs.Common.{arith, ◌≡◌, ◌==◌, false, Err, cond, codes, sym, ap, ◌∙◌}
use Rattle.std.proofs.lemmas.Grind.{common_steps}
use Rattle.std.proofs.lemmas.Result.{IfErr-weaker, IfOk-weaker}
use Rattle.oct_ops.specs.Operations.{empty}
use Rattle.census_state.specs.Lines.{number_line}
use Rattle.census_state.specs.Stored.{saved}
use Rattle.census_state.specs.declared.fault.Fault.TheVariants.{Zero}
use Rattle.census_state.proofs.states.init.Goals as goal

pub returns-clause-ok : goal.returns-clause-ok
returns-clause-ok c =
    let positive : (c.args.id == 0) ≡ false = grind (arith, common_steps, c.in-Ok.ensures.accepted) in
    let made = ap (λ zero. cond zero (Err Zero) (saved (record { author = c.args.id; ops = empty }) (number_line (codes "author ") c.args.id))) positive in
    IfOk-weaker c.save.result _ _ (λ reply done. made ∙ (λ i. saved (sym c.in-Ok.ensures.ok i) (sym (c.in_ok-text.ensures ∙ ap (number_line (codes "author ")) c.from.ensures) i)) ∙ done) c.save.ensures.ok

pub returns-clause-err : goal.returns-clause-err
returns-clause-err c =
    let positive : (c.args.id == 0) ≡ false = grind (arith, common_steps, c.in-Ok.ensures.accepted) in
    let made = ap (λ zero. cond zero (Err Zero) (saved (record { author = c.args.id; ops = empty }) (number_line (codes "author ") c.args.id))) positive in
    IfErr-weaker c.save.result _ _ (λ e done other. made ∙ (λ i. saved (sym c.in-Ok.ensures.ok i) (sym (c.in_ok-text.ensures ∙ ap (number_line (codes "author ")) c.from.ensures) i)) ∙ done other) c.save.ensures.err
