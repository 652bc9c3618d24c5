-- Laws of tests and of comparisons that several crates cite.
use Rattle.std.specs.Prelude.{◌≡◌, Bool, true, false, ◌||◌, T, refl}
use Rattle.std.specs.Ordering.{is_lt, is_gt, ordering_then}
use Rattle.std.specs.declared.cmp.Ordering.{Ordering}
use Rattle.std.specs.declared.cmp.Ordering.TheVariants.{Less, Equal, Greater}

pub or_left_comm : (a b c : Bool) → (a || (b || c)) ≡ (b || (a || c))
or_left_comm true true c = refl
or_left_comm true false c = refl
or_left_comm false b c = refl

pub true_from_T : (b : Bool) → T b → b ≡ true
true_from_T true h = refl
true_from_T false h = absurd h

pub less_from_lt : (r : Ordering) → is_lt r ≡ true → r ≡ Less
less_from_lt Less h = refl
less_from_lt Equal h = cc
less_from_lt Greater h = cc

-- what is below by its first part is not above by it
pub not_above : (a b : Ordering) → is_lt (ordering_then a b) ≡ true → is_gt a ≡ false
not_above Less b h = refl
not_above Equal b h = refl
not_above Greater b h = cc
