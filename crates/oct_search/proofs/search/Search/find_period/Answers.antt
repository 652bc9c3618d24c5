use Rattle.std.proofs.Common.{ap, subst₂}
use Rattle.oct_search.specs.Found.{IsFound}
use Rattle.oct_search.specs.Known.{Known}
use Rattle.oct_search.proofs.search.Search.find_period.Goals as goal

pub returns : goal.returns
returns g c =
    subst₂ (λ code len. IsFound code len c.find_period.result) (ap (λ (k : Known). k.code) c.self.view_is) (ap (λ (k : Known). k.len) c.self.view_is) c.find_period.ensures
