-- The operations of a text that are still to be made.
use Rattle.std.specs.Prelude.{◌≡◌, ℕ, ◌≤◌, List, [], None, Ok, Err}
use Rattle.oct_code.specs.declared.limits.TheConstants.{LIMIT}
use Rattle.oct_ops.specs.Body.{Operation}
use Rattle.oct_delta.specs.Text.{Bytes}
use Rattle.oct_delta.specs.Reading.{Read, chain_at, op_at}

-- so many operations from the front
abbrev pub ops_at_front : ℕ → ℕ → Bytes → Read (List Operation)
ops_at_front limit count bytes = chain_at (λ _. op_at limit) None count bytes

abbrev pub what_is_read : {A : Type 0} → Read (List A) → List A
what_is_read (Ok x) = x.0
what_is_read (Err e) = []

abbrev pub ops_left : ℕ → ℕ → Bytes → List Operation
ops_left limit count bytes = what_is_read (ops_at_front limit count bytes)

-- so many operations are all that the bytes spell
pub record IsTextOps (limit count : ℕ) (bytes : Bytes) : Type 0 where
  pub low : limit ≤ LIMIT
  pub whole : ops_at_front limit count bytes ≡ Ok (ops_left limit count bytes, [])
