use Rattle.std.proofs.Common.{◌++◌, ◌∙◌, ap}
use Rattle.std.proofs.lemmas.List.{take_all}
use Rattle.std.specs.List.{flat_map}
use Rattle.oct_ops.proofs.Growing.{grown_each}
use Rattle.oct_delta.proofs.output.put_each.Goals as goal

pub loop-item-preserved : goal.loop-item-preserved
loop-item-preserved g c =
    grown_each g.P.Put.spelled c.args.items.now c.loop-item.item-index c.item-item.result c.item-item.result c.args.out.now.items c.loop-item.out.items c.put.new.out.items c.loop-item-test.true c.item-item.is c.loop-item.invariant c.in_ok-put.ensures.ok

pub returns-clause-ok : goal.returns-clause-ok
returns-clause-ok g c =
    c.loop-item.invariant
    ∙ ap (λ xs. c.args.out.now.items ++ flat_map g.P.Put.spelled xs) (take_all c.loop-item.item-index c.args.items.now c.loop-item-test.false)
