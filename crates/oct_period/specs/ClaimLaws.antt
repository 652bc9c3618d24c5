-- The order of claims is total, and claims that tie are one.
use Rattle.std.specs.Cmp.{IsTotalOrder, then_total, on_total}
use Rattle.std.specs.FinSet.{IsAntisymmetric}
use Rattle.oct_code.specs.CodeOrder.{both_tie}
use Rattle.oct_ops.specs.DotOrder.{dot_cmp}
use Rattle.oct_ops.specs.OrderLaws.{dot_cmp_total, dot_cmp_exact, period_cmp_total, period_cmp_exact}
use Rattle.oct_period.specs.Claims.{claim_cmp}

pub claim_cmp_total : IsTotalOrder claim_cmp
claim_cmp_total = then_total (on_total (λ c. c.0) dot_cmp_total) (on_total (λ c. c.1) period_cmp_total)

pub claim_cmp_exact : IsAntisymmetric claim_cmp
claim_cmp_exact c d tie =
    let parts = both_tie (dot_cmp c.0 d.0) _ tie in
    λ i. (dot_cmp_exact c.0 d.0 parts.0 i, period_cmp_exact c.1 d.1 parts.1 i)
