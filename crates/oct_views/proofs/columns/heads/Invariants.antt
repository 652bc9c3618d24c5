use Rattle.std.proofs.Common.{◌≡◌, map, take}
use Rattle.oct_views.specs.Columns.{heads}
use Rattle.oct_views.proofs.columns.heads.Given as goal

abbrev pub invariant-loop-column : goal.invariant-loop-column
invariant-loop-column g l = map (λ name. name.now) l.names.items ≡ heads (take l.column-index l.columns)
