use Rattle.std.proofs.Common.{ℕ, List, Bor, sym, subst}
use Rattle.std.specs.BTreeMap as tree
use Rattle.std.specs.Ordering.{nat_cmp, eq_by_cmp}
use Rattle.std.specs.Str.{IsAscii}
use Rattle.oct_sheet.proofs.FoundNames.{found_either}
use Rattle.oct_sheet.specs.Names.{name_at}
use Rattle.oct_sheet.proofs.name_table.put.Goals as goal

pub returns-in-Ok-clause-ascii : goal.returns-in-Ok-clause-ascii
returns-in-Ok-clause-ascii g c = λ ascii author.
    subst (λ found. IsAscii (name_at {R = Bor (List ℕ)} (λ text. text.now) found)) (sym (c.in-Ok.ensures.updates.0 author))
    (found_either {R = Bor (List ℕ)} (λ text. text.now) (eq_by_cmp nat_cmp c.author.result author) c.text_of.result (tree.get nat_cmp c.args.table.now author) IsAscii c.text_of.ensures.ascii (ascii author))
