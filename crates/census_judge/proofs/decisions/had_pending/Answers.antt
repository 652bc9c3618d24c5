use Rattle.std.proofs.Common.{◌≡◌, true, subst}
use Rattle.std.specs.Cmp.{first_so}
use Rattle.std.specs.List.{list_all}
use Rattle.oct_ops.specs.Games.{of_code}
use Rattle.census_judge.proofs.decisions.had_pending.Goals as goal

pub was_pending-requires-clause-of_game : goal.was_pending-requires-clause-of_game
was_pending-requires-clause-of_game c =
    let code = c.args.old.now.code in
    first_so (of_code code c.in-Some.op.now) (list_all (of_code code) c.next.new.self) (subst (λ ops. list_all (of_code code) ops ≡ true) c.in-Some.ensures.steps c.loop-op.invariant.each)
