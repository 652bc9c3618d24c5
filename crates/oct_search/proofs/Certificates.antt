-- What shows that the nim-values of a game go on with a period.
use Rattle.std.proofs.Common.{◌≡◌, ℕ, ◌+◌, ◌-◌, ◌*◌, ◌%◌, ◌^◌, ◌<◌, ◌≤◌, true, false, Option, None, Some, IfSome, is_some, List, length, map, take, slice_index, inl, inr, ap, sym, subst, ◌∙◌, arith, vec_len}
use Rattle.std.proofs.lemmas.Bool.{cases_Bool, false≢true}
use Rattle.std.proofs.lemmas.List.{length-map, take-map}
use Rattle.std.proofs.lemmas.List.Elements.{All-take, Contains-get_or}
use Rattle.std.specs.List.{All, Contains}
use Rattle.oct_code.specs.Code.{Code, len}
use Rattle.oct_mex.specs.Marks.{IsTableFor}
use Rattle.oct_mex.specs.NimValues.{nim_value, nim_values}
use Rattle.oct_mex.specs.Periods.{ComesAgain, GoesOn}
use Rattle.oct_mex.specs.Rare.{is_rare, AreBeside}
use Rattle.oct_mex.specs.Row.{IsRow}
use Rattle.oct_mex.specs.Windows.{IsHeld, IsSettled, Settles, window}
use Rattle.oct_mex.specs.declared.row.Row.{Row}
use Rattle.oct_mex.proofs.Held.{held_value}
use Rattle.oct_mex.proofs.NimValues.{nim_values-length, nim_values-take}
use Rattle.oct_mex.proofs.Pushed.{value_at}
use Rattle.oct_mex.proofs.SeenPeriods.{goes_on, shown_holds}
use Rattle.oct_mex.proofs.Windows.{settled_runs_hold}

-- a row of values whose mask is not empty, and no listed heap is larger than `reach`
module _ {T A : Type 0} (number : T → ℕ) (c : Code) (row : Row T A) (reach : ℕ) (kept : IsRow number c row) (some : 0 < row.rare.mask.bits)
    (few : (h : ℕ) → Contains row.rare.heaps.items h → h ≤ reach) where
  abbrev all : List ℕ
  all = map number row.values.items

  -- nor is a heap rare that is larger
  pub common : (h : ℕ) → reach < h → h < vec_len row.values → is_rare row.rare.mask h (nim_value c h) ≡ false
  common h high low = elim (cases_Bool (is_rare row.rare.mask h (nim_value c h))) [
    | inr not ↦ not
    | inl is ↦ absurd (omega (arith, few h (kept.listed.rare some h (omega arith) low (ap (is_rare row.rare.mask h) (value_at c (vec_len row.values) h all kept.values low) ∙ is))))
  ]

  -- the values of the heaps before one of them
  module _ (n : ℕ) (room : reach + window c reach < n) (low : n < vec_len row.values) where
    abbrev head : List ℕ
    head = map number (take n row.values.items)

    is_head : head ≡ nim_values c n
    is_head = sym (take-map number n row.values.items) ∙ ap (take n) kept.values ∙ nim_values-take c (vec_len row.values) n (omega arith)

    long : length head ≡ n
    long = ap length is_head ∙ nim_values-length c n

    same : (h : ℕ) → h < n → slice_index head h ≡ slice_index all h
    same h less = value_at c n h head is_head less ∙ sym (value_at c (vec_len row.values) h all kept.values (omega arith))

    pub head_table : IsTableFor head row.used
    head_table = record {
      bits = kept.used.bits;
      power = kept.used.power;
      small = let P : ℕ → Type 0 = λ v. v < 2 ^ kept.used.bits in subst (All P) (take-map number n row.values.items) (All-take P n all kept.used.small);
    }

    pub head_beside : AreBeside head row.rare.heaps.items (map number row.rare.values.items)
    head_beside =
        let beside = kept.listed.beside in
        let heaps = row.rare.heaps.items in
        let near : (i : ℕ) → i < length heaps → slice_index heaps i < n = λ i less. omega (arith, few (slice_index heaps i) (Contains-get_or heaps i 0 less)) in
        record {
          size = beside.size;
          within = λ i less. omega (arith, near i less, long);
          each = λ i less. beside.each i less ∙ sym (same (slice_index heaps i) (near i less));
        }

    is_held : IsHeld c reach n head
    is_held = record {
      room = omega (arith, long);
      few = omega (arith, long);
      small = λ h less. value_at c n h head is_head (omega arith);
      last = λ h less near. ap (slice_index head) (omega (arith, long)) ∙ value_at c n h head is_head less;
    }

    -- what these settle
    pub settled_by : (found : Option ℕ) → is_some found ≡ true → IfSome found (λ v. is_rare row.rare.mask n v ≡ false)
        → IfSome found (Settles c (slice_index head) (length (take n row.values.items)) row.rare.heaps.items reach row.used) → IsSettled c row.rare.mask reach n
    settled_by None lost not_rare settles = absurd (false≢true lost)
    settled_by (Some v) is not_rare settles =
        (held_value c row.rare.mask reach n row.used v head row.rare.heaps.items is_held kept.fit some
        (λ enough h first less is. kept.listed.rare enough h first (omega arith) (ap (is_rare row.rare.mask h) (sym (same h (omega arith))) ∙ is)) few head_table
        (λ h far less. common h far (omega arith)) not_rare
        (subst (λ k. Settles c (slice_index head) k row.rare.heaps.items reach row.used v) (sym (length-map (take n row.values.items) number)) settles)).1

  -- a run of settled heaps up to the end of the values
  pub goes_on_by : (first start period : ℕ) → 1 ≤ period → (row.rare.mask.parity ≡ true → period % 2 ≡ 0) → start + period ≡ vec_len row.values
      → first + window c reach ≤ start → reach + window c reach < start → ComesAgain all first period
      → ((n : ℕ) → start ≤ n → n < vec_len row.values → IsSettled c row.rare.mask reach n) → GoesOn c (vec_len row.values) period
  goes_on_by first start period one even end back room again settled =
      let long : length all ≡ vec_len row.values = ap length kept.values ∙ nim_values-length c (vec_len row.values) in
      let value : (h : ℕ) → h < vec_len row.values → slice_index all h ≡ nim_value c h = λ h low. value_at c (vec_len row.values) h all kept.values low in
      goes_on c (start - window c reach) period (vec_len row.values) (omega arith) (settled_runs_hold c row.rare.mask reach start period (record {
        fit = kept.fit;
        some = one;
        even = even;
        room = omega arith;
        common = λ h far low. common h far (omega arith);
        settled = λ n high low. settled n high (omega arith);
        windows = λ n high low. sym (value (n + period) (omega arith)) ∙ again n (omega arith) (omega (arith, long)) ∙ value n (omega arith);
      }))

-- a period that the values show by themselves
pub goes_on_if_shown : {T A : Type 0} (number : T → ℕ) (c : Code) (row : Row T A) (start period : ℕ) → IsRow number c row → 1 ≤ start
    → 2 * start + 2 * period + len c ≤ vec_len row.values → ComesAgain (map number row.values.items) start period → GoesOn c (vec_len row.values) period
goes_on_if_shown number c row start period kept first enough again =
    let all = map number row.values.items in
    let long : length all ≡ vec_len row.values = ap length kept.values ∙ nim_values-length c (vec_len row.values) in
    goes_on c start period (vec_len row.values) (omega arith)
    (shown_holds c all start period (kept.values ∙ ap (nim_values c) (sym long)) first (omega (arith, long)) again)
