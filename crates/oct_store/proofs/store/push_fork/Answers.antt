use Rattle.std.proofs.Common.{arith, ◌≤◌, ◌++◌, [], ◌∷◌, cond, sym, ap, ◌∙◌}
use Rattle.std.proofs.lemmas.Bool.{le-leb}
use Rattle.oct_store.proofs.store.push_fork.Goals as goal

pub returns-in_ok-push : goal.returns-in_ok-push
returns-in_ok-push g c =
    let forks : 2 ≤ c.args.fork.contents = omega arith in
    c.in_ok-push.ensures.items ∙ ap (λ b. c.args.forks.now.items ++ cond b (c.args.fork ∷ []) []) (sym (le-leb 2 c.args.fork.contents forks))
