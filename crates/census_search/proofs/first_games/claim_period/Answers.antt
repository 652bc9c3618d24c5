use Rattle.std.proofs.Common.{ap, sym, ◌∙◌}
use Rattle.oct_ops.specs.Sets as sets
use Rattle.oct_period.specs.Claims.{Claims, claims_in}
use Rattle.oct_period.specs.GameContent.{GameContent}
use Rattle.census_search.specs.FirstGames.{listed_if}
use Rattle.census_search.proofs.FirstGames.{none_claims, one_claim}
use Rattle.census_search.proofs.first_games.claim_period.Goals as goal

pub returns-in_default-clause-claims : goal.returns-in_default-clause-claims
returns-in_default-clause-claims g c = ap claims_in c.requires ∙ none_claims ∙ ap listed_if (sym c.in_default.is ∙ c.find_period.ensures.value)

pub returns-in-Ok-add_period-clause-claims : goal.returns-in-Ok-add_period-clause-claims
returns-in-Ok-add_period-clause-claims g c =
    let dot = c.in-Ok.dot in
    let period = c.in-Some.period in
    ap (λ (h : GameContent). claims_in h.claims) c.in-Ok-add_period.ensures.ok
    ∙ ap (λ (s : Claims). claims_in (sets.insert s (dot, period))) c.requires
    ∙ one_claim dot period
    ∙ ap listed_if (sym c.in-Some.is ∙ c.find_period.ensures.value)
