use Rattle.std.proofs.Common.{refl}
use Rattle.oct_ops.proofs.Growing.{grown_each}
use Rattle.oct_text.specs.Escape.{escaped_byte}
use Rattle.oct_text.proofs.escape.append_escaped.Goals as goal

pub loop-byte-preserved : goal.loop-byte-preserved
loop-byte-preserved g c =
    grown_each escaped_byte c.args.text.now c.loop-byte.byte-index _ 0 c.args.out.now.items c.loop-byte.out.items c.append_byte.new.out.items
    c.loop-byte-test.true refl c.loop-byte.invariant c.in_ok-append_byte.ensures.ok
