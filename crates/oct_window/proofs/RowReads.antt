-- What reads of the cells give.
use Rattle.std.proofs.Common.{◌≡◌, ℕ, ◌<◌, List, map, length, slice_index_or, ap, sym, ◌∙◌, arith}
use Rattle.std.proofs.lemmas.List.{get_or_default, map-id}
use Rattle.oct_code.specs.Code.{Code}
use Rattle.oct_mex.specs.NimValues.{nim_value, nim_values}
use Rattle.oct_mex.proofs.NimValues.{nim_values-length}
use Rattle.oct_mex.proofs.Pushed.{value_at}

-- the number of a cell that is read
pub read : (c : Code) (n heap v : ℕ) (cells : List ℕ) → map (λ x. x) cells ≡ nim_values c n → heap < n → v ≡ slice_index_or cells heap v → v ≡ nim_value c heap
read c n heap v cells are low is =
    let all : cells ≡ nim_values c n = sym (map-id cells) ∙ are in
    is ∙ get_or_default cells heap v 0 (omega (arith, ap length all, nim_values-length c n)) ∙ value_at c n heap cells all low
