-- What a record is: an author, and a set of operations.
use Rattle.std.specs.Prelude.{ℕ, refl}
use Rattle.std.specs.Coded.{Coded, code_by, coded×, coded_ℕ}
use Rattle.oct_ops.specs.Operations.{Operations, operations_code}

pub record RecordContent : Type 0 where
  pub author : ℕ
  pub ops : Operations

abbrev pub record_code : Coded RecordContent
record_code = code_by (ℕ × Operations) (coded× coded_ℕ operations_code) (λ r. (r.author, r.ops)) (λ p. record { author = p.0; ops = p.1 }) (λ _. refl)
