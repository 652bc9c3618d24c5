use Rattle.std.proofs.Common.{refl}
use Rattle.oct_ops.proofs.Growing.{grown_each}
use Rattle.oct_plot.specs.Sentence.{word_of}
use Rattle.oct_plot.proofs.sentence.append_words.Goals as goal

pub loop-value-preserved : goal.loop-value-preserved
loop-value-preserved g c =
    grown_each word_of c.args.values.now c.loop-value.value-index _ 0 c.args.out.now.items c.loop-value.out.items c.append_word.new.out.items
    c.loop-value-test.true refl c.loop-value.invariant c.in_ok-append_word.ensures.ok
