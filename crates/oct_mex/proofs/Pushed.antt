-- The next nim-value, and the values with it.
use Rattle.std.proofs.Common.{◌≡◌, ℕ, suc, ◌+◌, ◌<◌, ◌++◌, ◌∷◌, [], List, map, slice_index, sym, ap, ap₂, ◌∙◌, arith, take, ◌≤◌}
use Rattle.std.proofs.lemmas.List.{map-append, map-id}
use Rattle.oct_code.specs.Code.{Code}
use Rattle.oct_mex.specs.Mex.{IsMex}
use Rattle.oct_mex.specs.NimValues.{IsOptionValue, nim_value, nim_values}
use Rattle.oct_mex.proofs.Mex.{mex_unique}
use Rattle.oct_mex.proofs.NimValues.{nim_sequence, nim_value-eq, nim_values-at, nim_values-take, option_agree}

-- a further cell holds a further number
pub numbers_push : {T : Type 0} (number : T → ℕ) (cells more : List T) (cell : T) → more ≡ cells ++ cell ∷ [] → map number more ≡ map number cells ++ number cell ∷ []
numbers_push number cells more cell is = ap (map number) is ∙ map-append number cells (cell ∷ [])

-- a value that is read from the list
pub value_at : (c : Code) (n at : ℕ) (values : List ℕ) → values ≡ nim_values c n → at < n → slice_index values at ≡ nim_value c at
value_at c n at values are low = ap (λ xs. slice_index xs at) are ∙ nim_values-at c n at low

-- the mex by a list of the smaller heaps' values is the nim-value of the next heap
pub next_is : (c : Code) (n v : ℕ) (values : List ℕ) → values ≡ nim_values c n → IsMex (IsOptionValue c (slice_index values) n) v → v ≡ nim_value c n
next_is c n v values are mex =
    mex_unique (IsOptionValue c (slice_index values) n) (IsOptionValue c (nim_value c) n) v (nim_value c n) mex (nim_sequence c n)
    (option_agree c (slice_index values) (nim_value c) n (λ m l. value_at c n m values are l))
    (option_agree c (nim_value c) (slice_index values) n (λ m l. sym (value_at c n m values are l)))

-- and the list is longer by it
pub values_push : (c : Code) (n v : ℕ) (values : List ℕ) → values ≡ nim_values c n → v ≡ nim_value c n → values ++ v ∷ [] ≡ nim_values c (n + 1)
values_push c n v values are is =
    let next : n + 1 ≡ suc n = omega arith in
    ap₂ (λ xs x. xs ++ x ∷ []) are (is ∙ nim_value-eq c n) ∙ ap (nim_values c) (sym next)

-- the first values of a list of nim-values
pub begun : (c : Code) (n k : ℕ) (cells : List ℕ) → map (λ x. x) cells ≡ nim_values c n → k ≤ n → take k cells ≡ nim_values c k
begun c n k cells are le = ap (take k) (sym (map-id cells) ∙ are) ∙ nim_values-take c n k le
