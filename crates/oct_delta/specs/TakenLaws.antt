-- The list of what byte strings add, as lists alone.
use Rattle.std.specs.Prelude.{◌≡◌, List, [], ◌∷◌, Option, Some, None}
use Rattle.std.proofs.Common.{ap, ◌∙◌}
use Rattle.oct_ops.specs.Arranged.{arranged, arranged_onto}
use Rattle.oct_ops.specs.Order.{op_cmp}
use Rattle.oct_ops.specs.OrderLaws.{op_cmp_total, op_cmp_exact}
use Rattle.oct_ops.specs.SetLaws.{listed-empty, listed-arranged, listed-union}
use Rattle.oct_ops.specs.Operations.{listed}
use Rattle.oct_ops.specs.Body.{Operation}
use Rattle.oct_delta.specs.Text.{Bytes}
use Rattle.oct_delta.specs.Decoding.{read_delta}
use Rattle.oct_delta.specs.Taken.{set_of_read, operations_of_all}

abbrev pub list_of_read : Option (List Operation) → List Operation
list_of_read None = []
list_of_read (Some ops) = arranged op_cmp ops

abbrev pub list_of_all : List Bytes → List Operation
list_of_all [] = []
list_of_all (bytes ∷ rest) = arranged_onto op_cmp (list_of_read (read_delta bytes)) (list_of_all rest)

listed-read : (read : Option (List Operation)) → listed (set_of_read read) ≡ list_of_read read
listed-read None = listed-empty op_cmp_total op_cmp_exact
listed-read (Some ops) = listed-arranged op_cmp_total op_cmp_exact ops

pub listed-all : (strings : List Bytes) → listed (operations_of_all strings) ≡ list_of_all strings
listed-all [] = listed-empty op_cmp_total op_cmp_exact
listed-all (bytes ∷ rest) =
    listed-union op_cmp_total op_cmp_exact (set_of_read (read_delta bytes)) (operations_of_all rest)
    ∙ ap (λ ops. arranged_onto op_cmp ops (listed (operations_of_all rest))) (listed-read (read_delta bytes))
    ∙ ap (arranged_onto op_cmp (list_of_read (read_delta bytes))) (listed-all rest)
