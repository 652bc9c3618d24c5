use Rattle.std.proofs.Common.{◌≡◌, map, take}
use Rattle.oct_sheet.specs.Names.{naming}
use Rattle.oct_sheet.proofs.names.naming_among.Given as goal

abbrev pub invariant-loop-op : goal.invariant-loop-op
invariant-loop-op g l = map (λ op. op.now) l.found.items ≡ naming (map (λ op. op.now) (take l.op-index l.notes))
