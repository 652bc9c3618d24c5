use Rattle.std.proofs.Common.{◌∙◌}
use Rattle.oct_mex.proofs.Cells.{at}
use Rattle.oct_sets.proofs.pairs.number_at.Goals as goal

pub returns : goal.returns
returns g c = c.number.ensures ∙ at g.T.Cell.number c.args.values.now c.args.place c.index-values-place.result c.requires c.index-values-place.is
