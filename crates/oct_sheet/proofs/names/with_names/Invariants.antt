use Rattle.std.proofs.Common.{◌≡◌, map, take}
use Rattle.oct_sheet.specs.Names.{called}
use Rattle.oct_sheet.proofs.names.with_names.Given as goal

abbrev pub invariant-loop-author : goal.invariant-loop-author
invariant-loop-author g l = l.found.items ≡ map (called (map (λ op. op.now) l.notes)) (take l.author-index l.authors)
