-- Options of two heaps, by the pairs of heaps that have so many beans.
use Rattle.std.proofs.Common.{ℕ, ◌+◌, ◌-◌, ◌/◌, ◌≤◌, IsTrue, arith, subst}
use Rattle.oct_code.specs.Code.{Code, len, allows}
use Rattle.oct_mex.specs.Marks.{IsPairBy, IsPairValue}
use Rattle.oct_mex.proofs.Marking.{pair_option}
use Rattle.oct_mex.proofs.Moves.{heaps_two}
use Rattle.oct_mex.specs.Marked.{IsLatePair}

-- a pair is an option's
pub late_pair : (c : Code) (g : ℕ → ℕ) (n r from end v : ℕ) → r ≤ n → r ≤ len c → IsTrue (allows c r 2) → 1 ≤ from → IsPairValue g (n - r) from end v → IsLatePair c g n from v
late_pair c g n r from end v held few allowed some o =
    let p : IsPairBy c g n from end r v = pair_option c g n r from end v held few allowed some o in
    record { removed = r; option = p.0; late = p.1 }

-- and an option's is a pair
pub pair_late : (c : Code) (g : ℕ → ℕ) (n from v : ℕ) (o : IsLatePair c g n from v) → IsPairValue g (n - o.removed) from ((n - o.removed) / 2 + 1) v
pair_late c g n from v o = record {
  a = o.option.a;
  b = o.option.b;
  high = o.late;
  low = omega (arith, o.option.parts.ordered, o.option.parts.total);
  ordered = o.option.parts.ordered;
  total = omega (arith, o.option.parts.total);
  is = o.option.is;
}

pub late_allowed : (c : Code) (g : ℕ → ℕ) (n from v : ℕ) (o : IsLatePair c g n from v) → 1 ≤ from → IsTrue (allows c o.removed 2)
late_allowed c g n from v o some = subst (λ h. IsTrue (allows c o.removed h)) (heaps_two o.option.a o.option.b (omega (arith, o.late))) o.option.parts.allowed
