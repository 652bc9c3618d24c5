use Rattle.std.proofs.Common.{◌≡◌, ◌++◌, take}
use Rattle.oct_sheet.specs.Names.{name_in}
use Rattle.oct_log.specs.Status.{authors_part, count_in}
use Rattle.oct_log.proofs.status.append_authors.Given as goal

abbrev pub invariant-loop-row : goal.invariant-loop-row
invariant-loop-row g l = l.out.items ≡ l.fn.out.items ++ authors_part (name_in (λ text. text.now) l.names) (count_in l.counts) (take l.row-index l.authors)
