-- A union has no fewer operations than what it began with.
use Rattle.std.proofs.Common.{arith, suc, ◌≤◌, List, [], ◌∷◌, length, sym, subst}
use Rattle.std.specs.BTreeSet.{insert_key}
use Rattle.std.specs.Ordering.{match_ordering}
use Rattle.std.specs.declared.cmp.Ordering.{Ordering}
use Rattle.std.specs.declared.cmp.Ordering.TheVariants.{Less, Equal, Greater}
use Rattle.oct_ops.specs.Arranged.{arranged_onto}
use Rattle.oct_ops.specs.Operations.{Operations, listed, union}
use Rattle.oct_ops.specs.Order.{op_cmp}
use Rattle.oct_ops.specs.OrderLaws.{op_cmp_total, op_cmp_exact}
use Rattle.oct_ops.specs.SetLaws.{listed-union}

module _ {K : Type 0} (R : K → K → Ordering) where
  length-insert_key : (xs : List K) (x : K) → length xs ≤ length (insert_key R xs x)
  length-insert_key [] x = omega (arith)
  length-insert_key (y ∷ ys) x = elim (R x y) as (λ o. suc (length ys) ≤ length (match_ordering o (x ∷ y ∷ ys) (y ∷ ys) (y ∷ insert_key R ys x))) [
    | Less ↦ omega (arith)
    | Equal ↦ omega (arith)
    | Greater ↦ let more = length-insert_key ys x in omega (arith, more)
  ]

  length-arranged_onto : (xs ys : List K) → length xs ≤ length (arranged_onto R xs ys)
  length-arranged_onto xs [] = omega (arith)
  length-arranged_onto xs (y ∷ ys) =
      let one = length-arranged_onto xs ys in
      let more = length-insert_key (arranged_onto R xs ys) y in
      omega (arith, one, more)

pub length-union : (s t : Operations) → length (listed s) ≤ length (listed (union s t))
length-union s t = subst (λ l. length (listed s) ≤ length l) (sym (listed-union op_cmp_total op_cmp_exact s t)) (length-arranged_onto op_cmp (listed s) (listed t))
