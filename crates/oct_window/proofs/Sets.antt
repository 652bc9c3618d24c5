-- Sets that stay right while their window goes on.
use Rattle.std.proofs.Common.{◌≡◌, ℕ, ◌+◌, ◌-◌, ◌<◌, ◌≤◌, true, List, length, map, take, drop, slice_index, Option, Some, None, IfSome, Result, Ok, Err, IfOk, sym, subst, ap, ◌∙◌, arith}
use Rattle.std.proofs.lemmas.List.{get_or-take, get_or-drop, length-take-le, length-drop, map-id}
use Rattle.std.specs.List.{Contains}
use Rattle.std.specs.Result.{result_ok}
use Rattle.oct_code.specs.Code.{Code}
use Rattle.oct_mex.specs.NimValues.{nim_value}
use Rattle.oct_mex.specs.Rare.{is_rare, ListsRare}
use Rattle.oct_mex.specs.Windows.{IsHeld, window}
use Rattle.oct_mex.specs.declared.mask.Mask.{Mask}
use Rattle.oct_sets.specs.Plans.{AreFirst, AreLast, IsParted}
use Rattle.oct_sets.specs.Sets.{IsRight}
use Rattle.oct_sets.specs.declared.sets.Sets.{Sets}
use Rattle.oct_window.specs.BySets.{AreRight}
use Rattle.oct_window.specs.Windows.{IsKnown, IsSameGame}
use Rattle.oct_window.specs.declared.window.Window.{Window}

pub if_some : {X : Type 0} (o : Option X) (P Q : X → Type 0) → ((x : X) → P x → Q x) → IfSome o P → IfSome o Q
if_some (Some x) P Q f p = f x p
if_some None P Q f p = tt

pub ok_some : {X E : Type 0} (r : Result X E) (o : Option X) (P Q : X → Type 0) → o ≡ result_ok r → ((x : X) → P x → Q x) → IfOk r P → IfSome o Q
ok_some (Ok x) o P Q is f p = subst (λ p. IfSome p Q) (sym is) (f x p)
ok_some (Err e) o P Q is f p = subst (λ p. IfSome p Q) (sym is) tt

-- the right ones of a window are so of another one of the same game
pub same_game : {A : Type 0} (v w : Window A) (s : Sets A) → IsSameGame v w → AreRight v s → AreRight w s
same_game v w s same are = record {
  heaps = are.heaps;
  right = subst (λ c. IsRight c are.heaps w.reach s) (sym same.code) (subst (λ r. IsRight v.code are.heaps r s) (sym same.reach) are.right);
  listed = λ a low high rare. are.listed a low (subst (λ r. a ≤ r) same.reach high)
      (subst (λ c. is_rare v.rare.mask a (nim_value c a) ≡ true) same.code (subst (λ m. is_rare m a (nim_value w.code a) ≡ true) same.mask rare));
}

-- what a window that is right and its sets have in common
pub parted : {A : Type 0} (w : Window A) (s : Sets A) → IsKnown w → (are : AreRight w s) → IsParted w.code w.rare.mask are.heaps w.reach w.count
parted w s known are = record { fit = known.fit; listed = are.listed; common = known.common }

-- ---- the values that a window has

module _ (c : Code) (reach n : ℕ) (held : List ℕ) (is : IsHeld c reach n held) where
  first_values : (xs : List ℕ) → xs ≡ held → AreFirst c (take (reach + 1) xs)
  first_values xs same h low =
      let room = is.room in
      let size : length (take (reach + 1) xs) ≡ reach + 1 = length-take-le (reach + 1) xs (omega (arith, ap length same)) in
      get_or-take (reach + 1) xs h 0 (omega (arith, low, size)) ∙ ap (λ ys. slice_index ys h) same ∙ is.small h (omega (arith, low, size))

  -- the same, as the numbers in cells
  pub first_of : (xs : List ℕ) → xs ≡ held → AreFirst c (map (λ x. x) (take (reach + 1) xs))
  first_of xs same = subst (AreFirst c) (sym (map-id (take (reach + 1) xs))) (first_values xs same)

  last_values : (xs : List ℕ) (k m : ℕ) → xs ≡ held → k + window c reach ≡ length held → m ≡ window c reach → AreLast c n (take m (drop k xs))
  last_values xs k m same at full h low near =
      let room = is.room in
      let few = is.few in
      let size : length (take m (drop k xs)) ≡ m = length-take-le m (drop k xs) (omega (arith, length-drop k xs, ap length same, at, full)) in
      let i = h + length (take m (drop k xs)) - n in
      let place : k + i ≡ h + length held - n = omega (arith, size, at, near, room, few, full) in
      get_or-take m (drop k xs) i 0 (omega (arith, size, low, near)) ∙ get_or-drop k xs i 0 ∙ ap (λ ys. slice_index ys (k + i)) same ∙ ap (slice_index held) place ∙ is.last h low (omega (arith, near, size, full))

  pub last_of : (xs : List ℕ) (k m : ℕ) → xs ≡ held → k + window c reach ≡ length held → m ≡ window c reach → AreLast c n (map (λ x. x) (take m (drop k xs)))
  last_of xs k m same at full = subst (AreLast c n) (sym (map-id (take m (drop k xs)))) (last_values xs k m same at full)

pub listed_of : (c : Code) (mask : Mask) (reach n : ℕ) (held heaps : List ℕ) → 0 < mask.bits → IsHeld c reach n held → ListsRare mask held (reach + 1) heaps
    → (a : ℕ) → 1 ≤ a → a ≤ reach → is_rare mask a (nim_value c a) ≡ true → Contains heaps a
listed_of c mask reach n held heaps some is listed a low high rare = listed some a low (omega (arith, high)) (ap (is_rare mask a) (is.small a high) ∙ rare)
