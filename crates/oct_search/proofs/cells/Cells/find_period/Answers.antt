use Rattle.std.proofs.Common.{length, subst, ap, sym, ◌∙◌}
use Rattle.oct_search.specs.Cells.{len_of}
use Rattle.oct_search.specs.Found.{IsFound}
use Rattle.oct_search.proofs.CellReads.{is_found}
use Rattle.oct_search.proofs.cells.Cells.find_period.Goals as goal

pub returns-in-Narrow : goal.returns-in-Narrow
returns-in-Narrow g c =
    let all = c.find_shown.ensures in
    subst (λ n. IsFound c.args.code.now n c.find_shown.result) (c.deref.ensures.len ∙ ap len_of (sym c.in-Narrow.is))
    (is_found c.args.code.now (length c.deref.result.now) c.find_shown.result all.shown all.earliest all.least all.holds)

pub returns-in-Wide : goal.returns-in-Wide
returns-in-Wide g c =
    let all = c.find_shown-in-Wide.ensures in
    subst (λ n. IsFound c.args.code.now n c.find_shown-in-Wide.result) (c.deref-in-Wide.ensures.len ∙ ap len_of (sym c.in-Wide.is))
    (is_found c.args.code.now (length c.deref-in-Wide.result.now) c.find_shown-in-Wide.result all.shown all.earliest all.least all.holds)
