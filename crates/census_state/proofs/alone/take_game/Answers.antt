use Rattle.std.proofs.Common.{sym, ap, ◌∙◌}
use Rattle.std.specs.Prelude.{unwrap_or}
use Rattle.std.specs.Option.{option_copied}
use Rattle.std.proofs.lemmas.Result.{on_ok_weaker}
use Rattle.oct_ops.specs.Operations.{empty, union}
use Rattle.oct_ops.specs.OrderLaws.{op_cmp_total, op_cmp_exact}
use Rattle.oct_ops.specs.SetLaws.{union-empty}
use Rattle.census_state.proofs.alone.take_game.Goals as goal

pub returns-in-Some : goal.returns-in-Some
returns-in-Some c = on_ok_weaker c.share_all.result (λ e. e ∙ ap (union c.args.part.now) ((λ i. unwrap_or (option_copied (sym c.in-Some.is i)) empty) ∙ c.game.ensures)) c.share_all.ensures

pub returns-in-None : goal.returns-in-None
returns-in-None c = sym (union-empty op_cmp_total op_cmp_exact c.args.part.now) ∙ ap (union c.args.part.now) ((λ i. unwrap_or (option_copied (sym c.in-None.is i)) empty) ∙ c.game.ensures)
