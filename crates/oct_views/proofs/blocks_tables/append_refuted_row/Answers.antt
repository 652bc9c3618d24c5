use Rattle.std.proofs.Common.{◌++◌, sym, ap, ◌∙◌}
use Rattle.std.proofs.lemmas.Bool.{cond-true}
use Rattle.std.proofs.lemmas.Result.{on_ok_weaker}
use Rattle.oct_views.specs.Game.{has_standing, refuted_row}
use Rattle.oct_views.proofs.blocks_tables.append_refuted_row.Goals as goal

pub returns-in-Refuted-clause-ok : goal.returns-in-Refuted-clause-ok
returns-in-Refuted-clause-ok g c =
    let notes = c.args.remarks.now in
    let which = c.args.which in
    let dot = c.args.row.now.dot in
    let shown = ap (refuted_row notes which dot) c.in-Refuted.is ∙ cond-true (has_standing notes which dot) _ _ (sym c.is_of.ensures ∙ c.if-is_of.true) in
    on_ok_weaker c.append_refutation.result (λ e. e ∙ ap (λ t. c.args.out.now.items ++ t) (sym shown)) c.append_refutation.ensures.ok
