-- An operation that was passed over.
use Rattle.std.specs.Prelude.{◌≡◌, ℕ, ◌++◌, Ok}
use Rattle.oct_ops.specs.Body.{Operation}
use Rattle.oct_delta.specs.Text.{Bytes, op_bytes}
use Rattle.oct_delta.specs.Delta.{Fits}
use Rattle.oct_delta.specs.Reading.{op_at}

pub record Passed (limit : ℕ) (bytes rest : Bytes) (o : Operation) : Type 0 where
  pub read : op_at limit bytes ≡ Ok (o, rest)
  pub fits : Fits limit o
  pub parts : bytes ≡ op_bytes o ++ rest
