use Rattle.oct_search.proofs.BySets.{first_is, first_low}
use Rattle.oct_search.proofs.by_sets.first_values.Goals as goal

pub returns-clause-first : goal.returns-clause-first
returns-clause-first g c = first_is g.T.Cell.number c.args.code.now c.args.row.now c.requires.row c.args.count c.deref.result.now c.deref.ensures.value c.requires.within

pub returns-clause-low : goal.returns-clause-low
returns-clause-low g c bound small = first_low g.T.Cell.number c.args.code.now c.args.row.now c.requires.row c.args.count c.deref.result.now c.deref.ensures.value bound small
