use Rattle.std.proofs.Common.{◌+◌, ◌*◌, ◌^◌, ◌<◌, arith}
use Rattle.oct_code.specs.Code.{len}
use Rattle.oct_sets.proofs.Near.{near_set, settled_of, value_of}
use Rattle.oct_sets.proofs.sets_of.SetsOf.settle.Goals as goal

pub returns-clause-value : goal.returns-clause-value
returns-clause-value g c code heaps reach right last parted =
    let s = c.args.self.now in
    let limit = 2 ^ g.W.Word.digits in
    let far : 2 * reach + len code < s.heap = omega (arith, right.room, c.requires.shaped.started) in
    let near = near_set code heaps reach s.plan limit s.heap (g.W.Word.number c.near_set.result) right.plan far (c.near_set.ensures.union code heaps reach right last) in
    value_of limit code c.args.mask heaps reach s.heap c.settled_by.result parted right.plan.small far c.settled_by.ensures.small c.settled_by.ensures.common (c.settled_by.ensures.settles code heaps reach near)

pub returns-clause-settled : goal.returns-clause-settled
returns-clause-settled g c code heaps reach right last parted =
    let s = c.args.self.now in
    let limit = 2 ^ g.W.Word.digits in
    let far : 2 * reach + len code < s.heap = omega (arith, right.room, c.requires.shaped.started) in
    let near = near_set code heaps reach s.plan limit s.heap (g.W.Word.number c.near_set.result) right.plan far (c.near_set.ensures.union code heaps reach right last) in
    settled_of limit code c.args.mask heaps reach s.heap c.settled_by.result parted right.plan.small far c.settled_by.ensures.small c.settled_by.ensures.common (c.settled_by.ensures.settles code heaps reach near)
