-- What the values of a row tell its sets.
use Rattle.std.proofs.Common.{◌≡◌, ℕ, ◌+◌, ◌-◌, ◌^◌, ◌<◌, ◌≤◌, ◌++◌, ◌∷◌, [], false, true, Option, Some, None, is_some, IfSome, MatchOption, List, length, map, take, drop, slice_index, inl, inr, ap, sym, subst, ◌∙◌, arith, vec_len}
use Rattle.std.proofs.lemmas.Bool.{cases_eq, false≢true}
use Rattle.std.proofs.lemmas.List.{drop-map, get_or-drop, get_or-take, length-drop, length-map, length-take-le, take-map}
use Rattle.std.proofs.lemmas.List.Elements.{All-drop, All-take}
use Rattle.std.specs.List.{All, Contains}
use Rattle.oct_code.specs.Code.{Code}
use Rattle.oct_mex.specs.NimValues.{nim_value, nim_values}
use Rattle.oct_mex.specs.Rare.{is_rare, Lists, ListsRare}
use Rattle.oct_mex.specs.Row.{IsRow}
use Rattle.oct_mex.specs.Windows.{IsSettled}
use Rattle.oct_mex.specs.declared.mask.Mask.{Mask}
use Rattle.oct_mex.specs.declared.row.Row.{Row}
use Rattle.oct_mex.proofs.Listed.{AreBeside-push, ListsRare-next, ListsRare-push}
use Rattle.oct_mex.proofs.NimValues.{get-end, nim_values-length, nim_values-take}
use Rattle.oct_mex.proofs.Pushed.{value_at}
use Rattle.oct_search.proofs.Certificates.{common}
use Rattle.oct_search.specs.BySets.{AreSetsOf, ServeFor}
use Rattle.oct_search.specs.declared.by_sets.BySets.{BySets}
use Rattle.oct_sets.specs.Plans.{AreFirst, AreLast, IsParted}
use Rattle.oct_sets.specs.Sets.{limit_of, reach_of}

module _ {T A : Type 0} (number : T → ℕ) (c : Code) (row : Row T A) (kept : IsRow number c row) where
  abbrev cells : List T
  cells = row.values.items

  low_by : (xs : List ℕ) → All (λ v. v < 2 ^ kept.used.bits) xs → (bound : ℕ) → row.used ≤ bound → (i : ℕ) → i < length xs → slice_index xs i < bound
  low_by xs all bound small i low = omega (arith, all i 0 low, kept.used.power, small)

  -- the first values
  pub first_is : (m : ℕ) (xs : List T) → xs ≡ cells → m ≤ vec_len row.values → AreFirst c (map number (take m xs))
  first_is m xs same few h low =
      let are : map number (take m xs) ≡ nim_values c m =
      ap (λ ys. map number (take m ys)) same ∙ sym (take-map number m cells) ∙ ap (take m) kept.values ∙ nim_values-take c (vec_len row.values) m few in
      value_at c m h (map number (take m xs)) are (omega (arith, low, ap length are, nim_values-length c m))

  pub first_low : (m : ℕ) (xs : List T) → xs ≡ cells → (bound : ℕ) → row.used ≤ bound → (i : ℕ) → i < length (take m xs) → slice_index (map number (take m xs)) i < bound
  first_low m xs same bound small i low =
      let P : ℕ → Type 0 = λ v. v < 2 ^ kept.used.bits in
      low_by (map number (take m xs))
      (subst (λ ys. All P (map number (take m ys))) (sym same) (subst (All P) (take-map number m cells) (All-take P m (map number cells) kept.used.small)))
      bound small i (omega (arith, low, length-map (take m xs) number))

  -- the last ones before a heap
  pub last_is : (n k m : ℕ) (xs : List T) → xs ≡ cells → n ≤ vec_len row.values → k + m ≡ n → AreLast c n (map number (take m (drop k xs)))
  last_is n k m xs same within full h low near =
      let all = map number cells in
      let whole : length all ≡ vec_len row.values = ap length kept.values ∙ nim_values-length c (vec_len row.values) in
      let are : map number (take m (drop k xs)) ≡ take m (drop k all) =
      ap (λ ys. map number (take m (drop k ys))) same ∙ sym (take-map number m (drop k cells)) ∙ ap (take m) (sym (drop-map number k cells)) in
      let size : length (map number (take m (drop k xs))) ≡ m = ap length are ∙ length-take-le m (drop k all) (omega (arith, length-drop k all, whole, within, full)) in
      let i = h + length (map number (take m (drop k xs))) - n in
      let place : k + i ≡ h = omega (arith, size, near, full, low) in
      ap (λ ys. slice_index ys i) are ∙ get_or-take m (drop k all) i 0 (omega (arith, size, low, full, near)) ∙ get_or-drop k all i 0
      ∙ ap (slice_index all) place ∙ value_at c (vec_len row.values) h all kept.values (omega (arith, low, within))

  pub last_low : (k m : ℕ) (xs : List T) → xs ≡ cells → (bound : ℕ) → row.used ≤ bound → (i : ℕ) → i < length (take m (drop k xs)) → slice_index (map number (take m (drop k xs))) i < bound
  last_low k m xs same bound small i low =
      let P : ℕ → Type 0 = λ v. v < 2 ^ kept.used.bits in
      low_by (map number (take m (drop k xs)))
      (subst (λ ys. All P (map number (take m (drop k ys)))) (sym same)
      (subst (All P) (take-map number m (drop k cells)) (All-take P m (map number (drop k cells)) (subst (All P) (drop-map number k cells) (All-drop P k (map number cells) kept.used.small)))))
      bound small i (omega (arith, low, length-map (take m (drop k xs)) number))

  -- its mask parts the heaps below one of them, where the listed ones are no larger than `reach`
  pub parted_by : (reach n : ℕ) → 0 < row.rare.mask.bits → reach < n → n ≤ vec_len row.values → ((h : ℕ) → Contains row.rare.heaps.items h → h ≤ reach)
      → IsParted c row.rare.mask row.rare.heaps.items reach n
  parted_by reach n some far within few = record {
    fit = kept.fit;
    listed = λ a low high rare. kept.listed.rare some a low (omega (arith, high, far, within))
        (ap (is_rare row.rare.mask a) (value_at c (vec_len row.values) a (map number cells) kept.values (omega (arith, high, far, within))) ∙ rare);
    common = λ h high low. common number c row reach kept some few h high (omega (arith, low, within));
  }

-- one heap more that is common
pub parted_more : (c : Code) (mask : Mask) (heaps : List ℕ) (reach n : ℕ) → IsParted c mask heaps reach n → (reach < n → is_rare mask n (nim_value c n) ≡ false) → IsParted c mask heaps reach (n + 1)
parted_more c mask heaps reach n parted last = record {
  fit = parted.fit;
  listed = parted.listed;
  common = λ h far low. elim (cases_eq h n) [
    | inl e ↦ subst (λ k. is_rare mask k (nim_value c k) ≡ false) (sym e) (last (omega (arith, far, e)))
    | inr other ↦ parted.common h far (omega (arith, low, other))
  ];
}

-- the lists of the rare heaps stay right behind a value that is common
pub lists_more : (mask : Mask) (values : List ℕ) (v n : ℕ) (heaps beside : List ℕ) → length values ≡ n → (0 < mask.bits → is_rare mask n v ≡ false) → Lists mask values n heaps beside
    → Lists mask (values ++ v ∷ []) (n + 1) heaps beside
lists_more mask values v n heaps beside size not_rare lists =
    let last : slice_index (values ++ v ∷ []) n ≡ v = get-end values v n size in
    record {
      rare = ListsRare-next mask (values ++ v ∷ []) n heaps heaps
          (subst (λ k. ListsRare mask (values ++ v ∷ []) k heaps) size (ListsRare-push mask values v heaps (subst (λ k. ListsRare mask values k heaps) (sym size) lists.rare)))
          (λ a is. is)
          (λ some first rare. absurd (false≢true (sym (not_rare some) ∙ ap (is_rare mask n) (sym last) ∙ rare)));
      beside = AreBeside-push values heaps beside v lists.beside;
    }

-- what holds of a cell that holds a value
pub if_held : {T : Type 0} (number : T → ℕ) (o : Option T) (v : ℕ) (none : Type 0) (P Q : T → Type 0) → MatchOption o none (λ cell. (number cell ≡ v) × Q cell) → ((cell : T) → number cell ≡ v → P cell) → IfSome o P
if_held number (Some cell) v none P Q is f = f cell is.0
if_held number None v none P Q is f = tt

-- what holds where there is something
pub if_some : {X : Type 0} (o : Option X) (P : Type 0) → is_some o ≡ true → IfSome o (λ x. P) → P
if_some None P is holds = absurd (false≢true is)
if_some (Some x) P is holds = holds

-- heaps that reach farther settle it, too
pub settled_within : (c : Code) (mask : Mask) (reach far n : ℕ) → reach ≤ far → IsSettled c mask reach n → IsSettled c mask far n
settled_within c mask reach far n less settled = record {
  common = settled.common;
  reached = λ u low. let o = settled.reached u low in (o.0, omega (arith, o.1, less));
}

-- sets that serve for a row, by what holds of them
pub serve_if : {T A : Type 0} (c : Code) (row : Row T A) (n : ℕ) (o : Option (BySets A)) → IfSome o (AreSetsOf c n) → IfSome o (λ by. by.mask ≡ row.rare.mask)
    → IfSome o (λ by. row.used ≤ limit_of by.sets) → IfSome o (λ by. (h : ℕ) → Contains row.rare.heaps.items h → h ≤ reach_of by.sets) → IfSome o (ServeFor c row n)
serve_if c row n None right mask wide most = tt
serve_if c row n (Some by) right mask wide most = record { right = right; mask = mask; wide = wide; most = most }
