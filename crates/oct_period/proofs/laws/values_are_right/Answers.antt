use Rattle.oct_period.proofs.HeapValues as values
use Rattle.oct_period.proofs.laws.values_are_right.Goals as goal

pub returns : goal.returns
returns c = record { heap = values.heap_values_are_right; position = values.position_values_are_right }
