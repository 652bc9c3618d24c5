-- The numbers that cells hold.
use Rattle.std.proofs.Common.{◌≡◌, ℕ, ◌<◌, List, length, map, slice_index, slice_index_or, ap, sym, ◌∙◌, arith, bit_xor}
use Rattle.std.proofs.lemmas.List.{get_or-map, length-map}
use Rattle.oct_mex.specs.Marks.{IsTableFor}
use Rattle.oct_mex.proofs.Marking.{xor_within}

module _ {T : Type 0} (number : T → ℕ) (cells : List T) where
  -- the number of a cell that is read
  pub at : (i : ℕ) (cell : T) → i < length cells → cell ≡ slice_index_or cells i cell → number cell ≡ slice_index (map number cells) i
  at i cell low is = ap number is ∙ sym (get_or-map number cells i cell 0 low)

  pub as_many : length (map number cells) ≡ length cells
  as_many = length-map cells number

  -- the exclusive or of two numbers is in the table
  pub xor_in : (size a b : ℕ) → IsTableFor (map number cells) size → a < length cells → b < length cells
      → bit_xor (slice_index (map number cells) a) (slice_index (map number cells) b) < size
  xor_in size a b table l k = xor_within (map number cells) size a b table (omega (arith, as_many)) (omega (arith, as_many))

-- as many cells hold the same numbers
pub same_len : {S T : Type 0} (one : S → ℕ) (other : T → ℕ) (xs : List S) (ys : List T) → map one xs ≡ map other ys → length xs ≡ length ys
same_len one other xs ys same = sym (length-map xs one) ∙ ap length same ∙ length-map ys other
