use Rattle.std.proofs.Common.{◌≡◌, length, map, arith, ap, inr, ◌∙◌}
use Rattle.oct_mex.specs.NimValues.{nim_value}
use Rattle.oct_mex.proofs.Cells.{at}
use Rattle.oct_mex.proofs.Pushed.{value_at, values_push}
use Rattle.oct_mex.proofs.following.Leader.new.Goals as goal

pub loop-heap-preserved : goal.loop-heap-preserved
loop-heap-preserved g c =
    let number = g.T.Cell.number in
    let code = c.args.code in
    let values = c.args.values.now in
    let heap = c.loop-heap.heap in
    let kept = c.loop-heap.invariant in
    let is : c.in-Ok.value ≡ nim_value code heap =
    c.in-Ok.ensures.1 ∙ c.number.ensures ∙ at number values heap c.index-values-heap.result c.loop-heap-test.true c.index-values-heap.is
    ∙ value_at code (length values) heap (map number values) c.requires c.loop-heap-test.true in
    record {
      items = c.push_reserved.ensures.items ∙ values_push code heap c.in-Ok.value c.loop-heap.held.items kept.items is;
      len = omega (arith, c.push_reserved.ensures.len, kept.len);
      room = omega (arith, c.push_reserved.ensures.capacity, kept.room);
    }

-- the next value has more bits
pub returns-in_default-clause-all : goal.returns-in_default-clause-all
returns-in_default-clause-all g c =
    let number = g.T.Cell.number in
    let code = c.args.code in
    let values = c.args.values.now in
    let heap = c.loop-heap.heap in
    let is : c.number.result ≡ nim_value code heap =
    c.number.ensures ∙ at number values heap c.index-values-heap.result c.loop-heap-test.true c.index-values-heap.is
    ∙ value_at code (length values) heap (map number values) c.requires c.loop-heap-test.true in
    inr (omega (arith, is, ap (nim_value code) c.loop-heap.invariant.len, c.in_default.ensures))
