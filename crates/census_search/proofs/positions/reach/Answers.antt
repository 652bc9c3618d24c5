use Rattle.std.proofs.Common.{◌≡◌, ap, subst, ◌∙◌, arith}
use Rattle.oct_period.specs.Periods.{position_value_from}
use Rattle.oct_reach.specs.Reaching.{value_told}
use Rattle.oct_search.specs.Found.{IsFound}
use Rattle.oct_search.specs.Known.{Known}
use Rattle.census_search.proofs.positions.reach.Goals as goal

pub returns-clause-ok : goal.returns-clause-ok
returns-clause-ok g c =
    let known = c.in_ok-found.ensures in
    let game = c.search.new.self in
    let found = c.in_ok-found.found in
    let none = ap (λ (k : Known). k.len) c.new-game.ensures in
    let same = known.code ∙ ap (λ (k : Known). k.code) c.new-game.ensures in
    record {
      found = found;
      values = game.len;
      few = omega (arith, known.most, none);
      all = λ nothing. omega (arith, known.all nothing, none);
      period = subst (λ code. IsFound code game.len found) same known.found;
      is = subst (λ code. c.position_value.result ≡ position_value_from (value_told code found game.len) 0 c.args.heaps.now) same c.position_value.ensures.value;
    }
