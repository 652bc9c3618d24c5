-- The order of filings is total, and filings that tie are one.
use Rattle.std.specs.Ordering.{nat_cmp}
use Rattle.std.specs.Cmp.{IsTotalOrder, then_total, on_total, nat_cmp_total}
use Rattle.std.specs.FinSet.{IsAntisymmetric}
use Rattle.oct_code.specs.CodeOrder.{both_tie}
use Rattle.oct_ops.specs.DotOrder.{dot_cmp}
use Rattle.oct_ops.specs.OrderLaws.{dot_cmp_total, dot_cmp_exact, block_cmp_total, block_cmp_exact}
use Rattle.oct_verify.specs.Filing.{filing_cmp}

pub filing_cmp_total : IsTotalOrder filing_cmp
filing_cmp_total = then_total (on_total (λ f. f.1.start) nat_cmp_total) (then_total (on_total (λ f. f.0) dot_cmp_total) (on_total (λ f. f.1) block_cmp_total))

pub filing_cmp_exact : IsAntisymmetric filing_cmp
filing_cmp_exact f g tie =
    let rest = both_tie (nat_cmp f.1.start g.1.start) _ tie in
    let parts = both_tie (dot_cmp f.0 g.0) _ rest.1 in
    λ i. (dot_cmp_exact f.0 g.0 parts.0 i, block_cmp_exact f.1 g.1 parts.1 i)
