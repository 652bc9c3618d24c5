use Rattle.std.proofs.Common.{List, ◌++◌, map, ap, ◌∙◌}
use Rattle.oct_code.specs.Code.{Code}
use Rattle.oct_ops.specs.Operations.{Operations}
use Rattle.oct_pages.proofs.BuiltGames.{codes_are}
use Rattle.oct_pages.proofs.Pushing.{code_pushed}
use Rattle.oct_pages.proofs.codes.codes_of.Goals as goal

pub loop-code-init : goal.loop-code-init
loop-code-init g c =
    let games = c.games-games.result.now in
    ap (λ (codes : List Code). codes ++ map (λ (e : Code × Operations). e.0) c.into_iter-code-iterator.result) c.in_ok-codes.ensures.items
    ∙ ap (map (λ (e : Code × Operations). e.0)) (c.into_iter-code-iterator.ensures.into_iter_gives ∙ c.iter-code-items.ensures.rest)
    ∙ codes_are c.args.said.now.ops games c.len.ensures.ordered c.games-games.ensures

pub loop-code-preserved : goal.loop-code-preserved
loop-code-preserved g c = code_pushed c.loop-code.codes.items (c.in-Some.code.now, _) c.next.new.self c.loop-code.code-iterator _ _ c.in-Some.ensures.steps c.in_ok-push.ensures.items c.loop-code.invariant
