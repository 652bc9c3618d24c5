-- Operations that are delivered, and the same operations taken in.
use Rattle.std.proofs.Common.{[], ◌∷◌, sym, ap, ◌∙◌}
use Rattle.oct_ops.specs.Operations.{insert, set_of}
use Rattle.oct_ops.specs.OrderLaws.{op_cmp_total, op_cmp_exact}
use Rattle.oct_ops.specs.SetLaws.{union-empty, union-insert}
use Rattle.oct_replica.specs.World.{DeliveriesAreTaken}

pub deliveries_are_taken : DeliveriesAreTaken
deliveries_are_taken held [] = sym (union-empty op_cmp_total op_cmp_exact held)
deliveries_are_taken held (o ∷ ops) =
    ap (λ s. insert s o) (deliveries_are_taken held ops) ∙ sym (union-insert op_cmp_total op_cmp_exact held (set_of ops) o)
