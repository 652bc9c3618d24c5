-- What a record holds at one moment.
use Rattle.std.specs.Prelude.{◌≡◌, List}
use Rattle.oct_join.specs.Clock.{Clock}
use Rattle.oct_ops.specs.Body.{Operation}
use Rattle.oct_ops.specs.Operations.{IsRising, set_of}
use Rattle.oct_record.specs.Valid.{AreValid}
use Rattle.oct_store.specs.Summary.{clock_of}

-- the operations are in order and valid, and this is their clock
pub record IsSnapshot (ops : List Operation) (t : Clock) : Type 0 where
  pub rising : IsRising ops
  pub valid : AreValid (set_of ops)
  pub clock : t ≡ clock_of ops
