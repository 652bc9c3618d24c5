-- A test finds the same in a set's list as in a list whose set it is.
use Rattle.std.proofs.Common.{◌≡◌, Bool, ◌||◌, List, [], ◌∷◌, map, refl, sym, ap, ◌∙◌}
use Rattle.std.specs.List.{list_any}
use Rattle.std.specs.declared.cmp.Ordering.{Ordering}
use Rattle.std.specs.declared.cmp.Ordering.TheVariants.{Less, Equal, Greater}
use Rattle.std.specs.Ordering.{match_ordering}
use Rattle.std.specs.Cmp.{IsTotalOrder}
use Rattle.std.specs.FinSet.{IsAntisymmetric}
use Rattle.std.specs.BTreeSet.{insert_key}
use Rattle.std.proofs.Math.Bool.{or_self_left}
use Rattle.oct_code.specs.Tests.{or_left_comm}
use Rattle.oct_ops.specs.Arranged.{arranged}
use Rattle.oct_ops.specs.Sets.{set_of, listed}
use Rattle.oct_ops.specs.SetLaws.{listed-arranged}

pub any-map : {X Y : Type 0} (q : Y → Bool) (f : X → Y) (xs : List X) → list_any q (map f xs) ≡ list_any (λ x. q (f x)) xs
any-map q f [] = refl
any-map q f (x ∷ xs) = ap (λ b. q (f x) || b) (any-map q f xs)

module _ {K : Type 0} {R : K → K → Ordering} (total : IsTotalOrder R) (exact : IsAntisymmetric R) where
  any-insert_key : (q : K → Bool) (ys : List K) (x : K) → list_any q (insert_key R ys x) ≡ (q x || list_any q ys)
  any-insert_key q [] x = refl
  any-insert_key q (y ∷ ys) x =
      elim (R x y) as (λ o. R x y ≡ o → list_any q (match_ordering o (x ∷ y ∷ ys) (y ∷ ys) (y ∷ insert_key R ys x)) ≡ (q x || (q y || list_any q ys))) [
        | Less ↦ λ e. refl
        | Equal ↦ λ e. sym (or_self_left (q y) (list_any q ys)) ∙ ap (λ z. q z || (q y || list_any q ys)) (sym (exact x y e))
        | Greater ↦ λ e. ap (λ b. q y || b) (any-insert_key q ys x) ∙ or_left_comm (q y) (q x) (list_any q ys)
      ] refl

  any-arranged : (q : K → Bool) (xs : List K) → list_any q (arranged R xs) ≡ list_any q xs
  any-arranged q [] = refl
  any-arranged q (x ∷ xs) = any-insert_key q (arranged R xs) x ∙ ap (λ b. q x || b) (any-arranged q xs)

  pub any-listed : (q : K → Bool) (xs : List K) → list_any q (listed (set_of {R = R} xs)) ≡ list_any q xs
  any-listed q xs = ap (list_any q) (listed-arranged total exact xs) ∙ any-arranged q xs
