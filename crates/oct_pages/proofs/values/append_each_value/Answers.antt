use Rattle.std.proofs.Common.{refl}
use Rattle.oct_pages.specs.Catalogue.{value_text}
use Rattle.oct_ops.proofs.Growing.{grown_each}
use Rattle.oct_pages.proofs.values.append_each_value.Goals as goal

pub loop-value-preserved : goal.loop-value-preserved
loop-value-preserved g c =
    grown_each value_text c.args.values.now c.loop-value.value-index _ 0 c.args.out.now.items c.loop-value.out.items c.append_labelled.new.out.items
    c.loop-value-test.true refl c.loop-value.invariant c.in_ok-append_labelled.ensures.ok
