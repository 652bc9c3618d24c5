use Rattle.std.proofs.Common.{◌≡◌, ◌==◌, ap, arith, length, sym, vec_len, ◌∙◌}
use Rattle.std.proofs.lemmas.Bool.{eqb-true}
use Rattle.oct_ops.proofs.op_list.OpList.is_empty.Goals as goal

pub returns : goal.returns
returns g c =
    let len : vec_len c.self.inside.ops ≡ length c.args.self.now = omega (arith, ap length c.self.view_is) in
    ((λ t. sym len ∙ eqb-true _ 0 (sym c.is_empty.ensures ∙ t)), (λ none. c.is_empty.ensures ∙ ap (λ n. n == 0) (len ∙ none)))
