use Rattle.std.proofs.Common.{◌≤◌, ap, arith, length, map, sym, subst, ◌∙◌}
use Rattle.std.proofs.lemmas.Bool.{leb-true}
use Rattle.oct_mex.specs.Following.{Leading, SplitAlike}
use Rattle.oct_mex.proofs.Pushed.{value_at}
use Rattle.oct_mex.proofs.following.Leader.leads.Goals.{then-values-len, else-values-len}
use Rattle.oct_mex.proofs.following.Leader.leads.Goals as goal

pub returns-then-split_alike : goal.returns-then-split_alike
returns-then-split_alike g c =
    let code = c.args.code.now in
    let n = length c.args.values.now in
    let all = map g.T.Cell.number c.args.values.now in
    let both : (n ≤ c.args.self.now.len) × SplitAlike code c.args.self.now.code = elim c.if-values-len.branch [
      | then-values-len w ↦ (omega (arith, w.if-values-len.true, c.len.ensures, ap (λ (k : Leading). k.len) c.self.view_is), subst (λ (k : Leading). SplitAlike code k.code) c.self.view_is (w.split_alike.ensures.0 (sym w.value-is ∙ c.if-split_alike.true)))
      | else-values-len w ↦ absurd (omega (arith, w.if-values-len.false, leb-true n c.len.result (sym w.value-is ∙ c.if-split_alike.true)))
    ] in (
      (λ t. (both.0, record { splits = both.1; same = λ m less. sym (value_at code n m all c.requires less) ∙ c.begin_with.ensures.0 t m less })),
      (λ o. c.begin_with.ensures.1 (λ m less. value_at code n m all c.requires less ∙ o.1.same m less)),
    )
