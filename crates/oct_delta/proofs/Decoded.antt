-- What a check of a list or of a clock says.
use Rattle.std.proofs.Common.{◌≡◌, ℕ, true, false, List, Result, Ok, Err, OnOk, OnErr}
use Rattle.std.specs.Result.{is_err}
use Rattle.oct_ops.specs.Body.{Operation}
use Rattle.oct_delta.specs.Delta.{IsList}

pub on_err : {T E : Type 0} {P : Type 0} (r : Result T E) → is_err r ≡ true → OnErr r P → P
on_err (Ok x) e h = absurd cc
on_err (Err x) e h = h

pub on_ok : {T E : Type 0} {P : Type 0} (r : Result T E) → is_err r ≡ false → OnOk r P → P
on_ok (Ok x) e h = h
on_ok (Err x) e h = absurd cc

pub none_along : (limit other : ℕ) (bytes : List ℕ) → limit ≡ other → ((ops : List Operation) → IsList limit bytes ops → ⊥) → (ops : List Operation) → IsList other bytes ops → ⊥
none_along limit other bytes e none ops is = none ops (rw e is)
