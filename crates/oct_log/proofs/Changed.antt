-- A table in which the value of one key was changed.
use Rattle.std.proofs.Common.{◌≡◌, Option, Some, cond, refl, ap}
use Rattle.std.specs.Prelude.{unwrap_or}
use Rattle.std.specs.FinMap.{IsAntisymmetric}
use Rattle.std.specs.Ordering.{eq_by_cmp, is_eq}
use Rattle.std.specs.declared.cmp.Ordering.{Ordering}
use Rattle.std.specs.declared.cmp.Ordering.TheVariants.{Less, Equal, Greater}

-- each key has its value, and this one the changed one
pub changed_at : {K V : Type 0} (R : K → K → Ordering) → IsAntisymmetric R → (get : K → Option V) (key k : K) (change : V → V) (default : V)
    → unwrap_or (cond (eq_by_cmp R key k) (Some (change (unwrap_or (get key) default))) (get k)) default ≡ cond (eq_by_cmp R key k) (change (unwrap_or (get k) default)) (unwrap_or (get k) default)
changed_at {K} {V} R exact get key k change default = by (R key k) refl
  where
    by : (o : Ordering) → R key k ≡ o
        → unwrap_or (cond (is_eq o) (Some (change (unwrap_or (get key) default))) (get k)) default ≡ cond (is_eq o) (change (unwrap_or (get k) default)) (unwrap_or (get k) default)
    by Less tie = refl
    by Equal tie = ap (λ x. change (unwrap_or (get x) default)) (exact key k tie)
    by Greater tie = refl
