-- The long periods of games in a table.
use Rattle.std.specs.Prelude.{List, [], ◌∷◌, Option, Some, None, if◌then◌else◌}
use Rattle.std.specs.BTreeMap as tree
use Rattle.std.specs.BTreeMap.{BTreeMap}
use Rattle.std.specs.Ordering.{eq_by_cmp}
use Rattle.oct_code.specs.Code.{Code, code_cmp}
use Rattle.oct_said.specs.declared.noting.LongPeriod.{LongPeriod}

-- the long period, if it is of this game
abbrev pub said_here : Code → Option LongPeriod → List LongPeriod
said_here c None = []
said_here c (Some long) = if eq_by_cmp code_cmp long.code c then long ∷ [] else []

-- the periods that are found, and none where nothing is
abbrev pub said_at : {S : Type 0} → (S → List LongPeriod) → Option S → List LongPeriod
said_at periods None = []
said_at periods (Some said) = periods said

-- the long periods of a game in a table
abbrev pub said_in : {S : Type 0} → (S → List LongPeriod) → BTreeMap Code S → Code → List LongPeriod
said_in periods table c = said_at periods (tree.get code_cmp table c)
