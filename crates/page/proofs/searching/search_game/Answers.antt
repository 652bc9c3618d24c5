use Rattle.std.proofs.Common.{arith, ap, ◌∙◌}
use Rattle.oct_search.specs.Known.{Known}
use Rattle.page.proofs.Searches.{searched}
use Rattle.page.proofs.searching.search_game.Goals as goal

pub returns-clause-ok : goal.returns-clause-ok
returns-clause-ok g c =
    let known = c.in_ok-found.ensures in
    let none = ap (λ (k : Known). k.len) c.new-game.ensures in
    searched c.args.code c.args.count c.search.new.self c.in_ok-found.found c.in_ok-game_line.field-0.items
    (known.code ∙ ap (λ (k : Known). k.code) c.new-game.ensures) (omega (arith, known.most, none)) (λ nothing. omega (arith, known.all nothing, none)) known.found c.in_ok-game_line.ensures
