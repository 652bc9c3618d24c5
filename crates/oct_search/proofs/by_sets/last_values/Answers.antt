use Rattle.std.proofs.Common.{◌+◌, ◌-◌, arith}
use Rattle.oct_search.proofs.BySets.{last_is, last_low}
use Rattle.oct_search.proofs.by_sets.last_values.Goals as goal

pub returns-clause-last : goal.returns-clause-last
returns-clause-last g c =
    let k = c.args.heap - (c.args.reach + c.len.result) in
    last_is g.T.Cell.number c.args.code.now c.args.row.now c.requires.row c.args.heap k (c.args.heap - k) c.deref.result.now c.deref.ensures.value c.requires.held
    (omega (arith, c.len.ensures.value, c.requires.within))

pub returns-clause-low : goal.returns-clause-low
returns-clause-low g c bound small =
    let k = c.args.heap - (c.args.reach + c.len.result) in
    last_low g.T.Cell.number c.args.code.now c.args.row.now c.requires.row k (c.args.heap - k) c.deref.result.now c.deref.ensures.value bound small
