-- A loop over a list, and a union that begins with no operation.
use Rattle.std.proofs.Common.{◌≡◌, ℕ, suc, ◌+◌, ◌<◌, add-one, get_or, List, ◌∷◌, length, drop, sym, ap, ◌∙◌}
use Rattle.std.proofs.Math.Seq.{drop-cons}
use Rattle.oct_ops.specs.Operations.{Operations, empty, union}
use Rattle.oct_ops.specs.OrderLaws.{op_cmp_total, op_cmp_exact}
use Rattle.oct_ops.specs.SetLaws.{union-empty, union_comm}

-- the first of those that are left
pub next_item : {V : Type 0} (items : List V) (i : ℕ) (item : V) → i < length items → item ≡ get_or items i item → drop i items ≡ item ∷ drop (i + 1) items
next_item items i item within is = rw add-one (drop-cons items i item within ∙ ap (λ f. f ∷ drop (suc i) items) (sym is))

-- what is joined to no operation is itself
pub from_none : (s t : Operations) → s ≡ empty → union s t ≡ t
from_none s t none = ap (λ r. union r t) none ∙ union_comm op_cmp_total op_cmp_exact empty t ∙ union-empty op_cmp_total op_cmp_exact t
