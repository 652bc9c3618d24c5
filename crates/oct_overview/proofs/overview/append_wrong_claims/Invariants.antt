use Rattle.std.proofs.Common.{◌≡◌, ◌++◌, take}
use Rattle.std.specs.List.{flat_map}
use Rattle.oct_overview.specs.Overview.{claim_refutation}
use Rattle.oct_overview.proofs.overview.append_wrong_claims.Given as goal

abbrev pub invariant-loop-row : goal.invariant-loop-row
invariant-loop-row g l = l.out.items ≡ l.fn.out.items ++ flat_map (claim_refutation l.fn.form l.fn.remarks l.fn.code l.fn.values) (take l.row-index l.rows)
