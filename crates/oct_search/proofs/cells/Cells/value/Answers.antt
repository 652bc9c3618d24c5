use Rattle.std.proofs.Common.{◌<◌, subst, ◌∙◌}
use Rattle.oct_search.specs.Cells.{IsKnown, len_of}
use Rattle.oct_search.proofs.CellReads.{read}
use Rattle.std.specs.Vec.{vec_len}
use Rattle.oct_search.proofs.cells.Cells.value.Goals as goal

pub returns-in-Narrow : goal.returns-in-Narrow
returns-in-Narrow g c = λ code known.
    let row = c.in-Narrow.row in
    let kept = subst (IsKnown code) c.in-Narrow.is known in
    c.from.ensures ∙ read code (vec_len row.values) c.args.heap c.index.result.now row.values.items kept.values (subst (λ s. c.args.heap < len_of s) c.in-Narrow.is c.requires) c.index.ensures

pub returns-in-Wide : goal.returns-in-Wide
returns-in-Wide g c = λ code known.
    let row = c.in-Wide.row in
    let kept = subst (IsKnown code) c.in-Wide.is known in
    read code (vec_len row.values) c.args.heap c.index-in-Wide.result.now row.values.items kept.values (subst (λ s. c.args.heap < len_of s) c.in-Wide.is c.requires) c.index-in-Wide.ensures
