-- What holds of the operation order.
use Rattle.std.specs.Prelude.{◌≡◌}
use Rattle.std.specs.declared.cmp.Ordering.TheVariants.{Equal}
use Rattle.std.specs.Cmp.{IsTotalOrder}
use Rattle.oct_ops.specs.Body.{Operation}
use Rattle.oct_ops.specs.Order.{op_cmp}

abbrev pub OrderIsTotal : Type 0
OrderIsTotal = IsTotalOrder op_cmp

-- of two operations that are neither above nor below one another, each is the other
abbrev pub TiesAreEqual : Type 0
TiesAreEqual = (o p : Operation) → op_cmp o p ≡ Equal → o ≡ p
