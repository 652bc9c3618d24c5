use Rattle.std.proofs.Common.{◌+◌, ◌++◌, ap, ◌∙◌}
use Rattle.std.specs.Prelude.{slice_get}
use Rattle.oct_overview.specs.Overview.{both_values}
use Rattle.oct_text.proofs.Joined.{joined_three}
use Rattle.oct_overview.proofs.overview.append_refuted_claim.Goals as goal

pub returns-clause-ok : goal.returns-clause-ok
returns-clause-ok g c =
    let other = c.value_at-other.ensures ∙ ap (λ p. slice_get c.args.values.now (c.args.heap + p)) c.period.ensures.value in
    joined_three c.append_line_end.result _ _ _ _ _ _ _ c.in_ok-append_wrong_claim.ensures.ok
    (c.in_ok-append_both_values.ensures.ok ∙ (λ i. c.append_wrong_claim.new.out.items ++ both_values c.args.form (c.value_at-value.ensures i) (other i) (c.args.heap + c.period.ensures.value i)))
    c.append_line_end.ensures.ok
