use Rattle.std.proofs.Common.{◌≡◌, ℕ, ap, ◌∙◌, arith, subst}
use Rattle.oct_code.specs.Code.{Code}
use Rattle.oct_search.specs.Found.{IsFound}
use Rattle.oct_search.specs.Known.{Known}
use Rattle.census_noted.specs.Rechecking.{told_line}
use Rattle.census_noted.proofs.rechecking.search_again.Goals as goal

pub returns-clause-ok : goal.returns-clause-ok
returns-clause-ok g c =
    let found = c.in_ok-found.found in
    let values = c.search.new.self.len in
    let s = c.in_ok-found.ensures in
    let len_of : Known → ℕ = λ k. k.len in
    let code_of : Known → Code = λ k. k.code in
    let none : c.new-game.result.len ≡ 0 = ap len_of c.new-game.ensures in
    let code : c.search.new.self.code ≡ c.args.code = s.code ∙ ap code_of c.new-game.ensures in
    record {
      found = found;
      values = values;
      few = omega (arith, none, s.most);
      all = λ nothing. omega (arith, none, s.all nothing);
      least = subst (λ game. IsFound game values found) code s.found;
      so = c.is_same.ensures;
      told = c.in_ok-told_line.ensures ∙ ap (λ n. told_line c.args.code found n c.args.said) c.len.ensures.len;
    }
