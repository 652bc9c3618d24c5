-- Numbers that two sets of operations use, each for something that the other has not.
use Rattle.std.specs.Prelude.{Bool, false, ◌&&◌, ◌||◌, List, if◌then◌else◌, unwrap_or}
use Rattle.std.specs.List.{fold}
use Rattle.std.specs.BTreeMap as tree
use Rattle.std.specs.BTreeMap.{BTreeMap}
use Rattle.std.specs.Ordering.{eq_by_cmp}
use Rattle.oct_ops.specs.Body.{Operation}
use Rattle.oct_ops.specs.DotOrder.{dot_cmp}
use Rattle.oct_ops.specs.Operation.{Dot}
use Rattle.oct_ops.specs.Operations.{Operations, contains}
use Rattle.oct_log.specs.declared.twice.Sides.{Sides}

-- neither set has an operation that the other has not
abbrev pub neither : Sides
neither = record { one = false; other = false }

-- with one more operation, of the dot `by`, of one set, of the other, or of both
abbrev pub seen : Dot → Sides → Bool → Bool → Dot → Sides
seen d sides in_one in_other by =
    if in_one && in_other then sides
    else (if eq_by_cmp dot_cmp by d then record { one = sides.one || in_one; other = sides.other || in_other } else sides)

-- by all of these operations
abbrev pub sides_of : Operations → Operations → List Operation → Dot → Sides
sides_of one other ops d = fold (λ sides o. seen d sides (contains one o) (contains other o) o.dot) neither ops

-- by a table
abbrev pub sides_in : BTreeMap Dot Sides → Dot → Sides
sides_in table d = unwrap_or (tree.get dot_cmp table d) neither

-- both sets have one that the other has not
abbrev pub is_twice : Sides → Bool
is_twice sides = sides.one && sides.other
