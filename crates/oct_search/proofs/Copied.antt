-- Values that are copied from one period before.
use Rattle.std.proofs.Common.{◌≡◌, ℕ, ◌+◌, ◌-◌, ◌^◌, ◌<◌, ◌≤◌, ◌++◌, List, length, length-append, map, slice_index, ap, subst, sym, ◌∙◌, arith, inl, inr, take, drop, Vec, vec_len}
use Rattle.std.specs.List.{All, slice_range}
use Rattle.std.proofs.lemmas.Bool.{cases_lt}
use Rattle.std.proofs.lemmas.Grind.{same_number_lists}
use Rattle.std.proofs.lemmas.List.{drop-map, get_or-append_right, get_or-drop, get_or-take, length-take-le, length-drop, map-append, take-map}
use Rattle.std.proofs.lemmas.List.Elements.{All-append, All-drop, All-take}
use Rattle.oct_code.specs.Code.{Code}
use Rattle.oct_mex.specs.Marks.{IsTableFor}
use Rattle.oct_mex.specs.NimValues.{nim_value, nim_values}
use Rattle.oct_mex.specs.Periods.{GoesOn}
use Rattle.oct_mex.specs.Rare.{Lists}
use Rattle.oct_mex.specs.Row.{IsRow}
use Rattle.oct_mex.specs.declared.mask.Mask.{Mask}
use Rattle.oct_mex.specs.declared.row.Row.{Row}
use Rattle.oct_mex.proofs.Listed.{ListsRare-unmasked}
use Rattle.oct_mex.proofs.NimValues.{get-before, nim_values-at, nim_values-length}
use Rattle.oct_mex.proofs.Pushed.{value_at}

-- the list is longer by the next values
pub values_append : (c : Code) (n : ℕ) (values more : List ℕ) → values ≡ nim_values c n → ((k : ℕ) → k < length more → slice_index more k ≡ nim_value c (n + k)) → values ++ more ≡ nim_values c (n + length more)
values_append c n values more are next =
    let size : length values ≡ n = ap length are ∙ nim_values-length c n in
    let whole : length (values ++ more) ≡ n + length more = omega (arith, size, length-append values more) in
    same_number_lists (values ++ more) (nim_values c (n + length more)) (whole ∙ sym (nim_values-length c (n + length more)))
    (λ k low. elim (cases_lt k n) [
      | inl below ↦
          get-before values more k (omega (arith, size, below)) ∙ ap (λ xs. slice_index xs k) are ∙ nim_values-at c n k below
          ∙ sym (nim_values-at c (n + length more) k (omega (arith, below)))
      | inr above ↦
          get_or-append_right values more n k 0 size above ∙ next (k - n) (omega (arith, low, whole, above))
          ∙ ap (nim_value c) (omega (arith, above)) ∙ sym (nim_values-at c (n + length more) k (omega (arith, low, whole)))
    ])

-- a table that is as long as the values ask for stays so where none is new
pub table_append : (values more : List ℕ) (size : ℕ) (kept : IsTableFor values size) → All (λ v. v < 2 ^ kept.bits) more → IsTableFor (values ++ more) size
table_append values more size kept small = record {
  bits = kept.bits;
  power = kept.power;
  small = All-append (λ v. v < 2 ^ kept.bits) values more kept.small small;
}

-- the values beside listed heaps stay where they stand
pub lists_append : (mask : Mask) (values more : List ℕ) (n end : ℕ) (heaps beside : List ℕ) → mask.bits ≡ 0 → Lists mask values n heaps beside → Lists mask (values ++ more) end heaps beside
lists_append mask values more n end heaps beside none kept = record {
  rare = ListsRare-unmasked mask (values ++ more) end heaps none;
  beside = record {
    size = kept.beside.size;
    within = λ i low. omega (arith, kept.beside.within i low, length-append values more);
    each = λ i low. kept.beside.each i low ∙ sym (get-before values more (slice_index heaps i) (kept.beside.within i low));
  };
}

-- the values from one period before, as many as a period at most
module _ {T : Type 0} (number : T → ℕ) (c : Code) (cells : List T) (n period count : ℕ) (are : map number cells ≡ nim_values c n) (on : GoesOn c n period) (few : count ≤ period) where
  abbrev pub copied : List T
  copied = slice_range cells (n - period) (n - period + count)

  numbers : map number copied ≡ take (n - period + count - (n - period)) (drop (n - period) (map number cells))
  numbers = sym (take-map number (n - period + count - (n - period)) (drop (n - period) cells)) ∙ ap (take (n - period + count - (n - period))) (sym (drop-map number (n - period) cells))

  pub copied-length : length (map number copied) ≡ count
  copied-length =
      let all = map number cells in
      let whole : length all ≡ n = ap length are ∙ nim_values-length c n in
      ap length numbers ∙ length-take-le (n - period + count - (n - period)) (drop (n - period) all) (omega (arith, length-drop (n - period) all, whole, on.0, few))
      ∙ (let e : n - period + count - (n - period) ≡ count = omega arith in e)

  pub copied-at : (k : ℕ) → k < length (map number copied) → slice_index (map number copied) k ≡ nim_value c (n + k)
  copied-at k low =
      let all = map number cells in
      let from = n - period in
      let under : k < count = omega (arith, low, copied-length) in
      let back : from + k + period ≡ n + k = omega (arith, on.0) in
      ap (λ xs. slice_index xs k) numbers ∙ get_or-take (from + count - from) (drop from all) k 0 (omega (arith, under)) ∙ get_or-drop from all k 0
      ∙ value_at c n (from + k) all are (omega (arith, under, few, on.0)) ∙ sym (on.1 (from + k) (omega (arith, back))) ∙ ap (nim_value c) back

  pub copied-small : (P : ℕ → Type 0) → All P (map number cells) → All P (map number copied)
  copied-small P all = subst (All P) (sym numbers) (All-take P (n - period + count - (n - period)) (drop (n - period) (map number cells)) (All-drop P (n - period) (map number cells) all))

-- a row under no mask is longer by them
pub row_copied : {T A : Type 0} (number : T → ℕ) (c : Code) (row : Row T A) (kept : IsRow number c row) (new : Vec T A) (period count : ℕ)
    → GoesOn c (vec_len row.values) period → count ≤ period → row.rare.mask.bits ≡ 0
    → new.items ≡ row.values.items ++ slice_range row.values.items (vec_len row.values - period) (vec_len row.values - period + count)
    → vec_len new ≡ vec_len row.values + count → vec_len new ≤ 2 ^ 32
    → IsRow number c (record { values = new; used = row.used; rare = row.rare })
row_copied number c row kept new period count on few none is longer limited =
    let cells = row.values.items in
    let n = vec_len row.values in
    let all = map number cells in
    let more = copied number c cells n period count kept.values on few in
    let next = map number more in
    let size : length next ≡ count = copied-length number c cells n period count kept.values on few in
    let both : map number new.items ≡ all ++ next = ap (map number) is ∙ map-append number cells more in
    let long : n + length next ≡ vec_len new = omega (arith, size, longer) in
    record {
      values = both ∙ values_append c n all next kept.values (copied-at number c cells n period count kept.values on few) ∙ ap (nim_values c) long;
      limited = limited;
      used = subst (λ xs. IsTableFor xs row.used) (sym both) (table_append all next row.used kept.used (copied-small number c cells n period count kept.values on few (λ v. v < 2 ^ kept.used.bits) kept.used.small));
      fit = kept.fit;
      listed = subst (λ xs. Lists row.rare.mask xs (vec_len new) row.rare.heaps.items (map number row.rare.values.items)) (sym both)
          (lists_append row.rare.mask all next n (vec_len new) row.rare.heaps.items (map number row.rare.values.items) none kept.listed);
    }
