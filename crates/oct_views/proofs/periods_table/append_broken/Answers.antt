use Rattle.std.proofs.Common.{◌+◌, ◌++◌, ◌∙◌}
use Rattle.std.proofs.lemmas.Result.{on_ok_weaker}
use Rattle.oct_text.proofs.Joined.{joined_two}
use Rattle.oct_views.specs.Game.{both_values}
use Rattle.oct_views.proofs.periods_table.append_broken.Goals as goal

pub returns-clause-ok : goal.returns-clause-ok
returns-clause-ok g c =
    joined_two c.append_both_values.result _ _ _ _ _ c.in_ok-append_pieces.ensures.ok
    (on_ok_weaker c.append_both_values.result
    (λ same. same ∙ (λ i. c.append_pieces.new.out.items ++ both_values (c.value_at-value.ensures i) (c.value_at-other.ensures i) (c.args.heap + c.args.period)))
    c.append_both_values.ensures.ok)
