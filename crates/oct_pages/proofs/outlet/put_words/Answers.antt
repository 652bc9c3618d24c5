use Rattle.std.proofs.Common.{◌+◌, ◌++◌, drop, subst}
use Rattle.std.proofs.lemmas.List.{at_drop_more}
use Rattle.std.specs.List.{flat_map}
use Rattle.written.proofs.Piecewise.{IsUnderway}
use Rattle.oct_pages.specs.Outlet.{word_text}
use Rattle.oct_pages.proofs.Flowing.{cut_off, passed, whatever}
use Rattle.oct_pages.proofs.outlet.put_words.Goals as goal

pub returns-in_err-put_word-clause-err : goal.returns-in_err-put_word-clause-err
returns-in_err-put_word-clause-err g c =
    let old = g.W.Write.contents c.args.out.now in
    let now = g.W.Write.contents c.loop-word.out in
    let text = c.args.piece.now.items ++ flat_map word_text c.args.words.now in
    let so_far = subst (IsUnderway old now text c.loop-word.piece.items) (at_drop_more (flat_map word_text) c.args.words.now c.loop-word.word-index _ c.loop-word-test.true) c.loop-word.invariant in
    whatever c.from_residual.result (cut_off old now _ text c.loop-word.piece.items _ (flat_map word_text (drop (c.loop-word.word-index + 1) c.args.words.now)) so_far c.in_err-put_word.ensures.err)

pub loop-word-preserved : goal.loop-word-preserved
loop-word-preserved g c =
    let old = g.W.Write.contents c.args.out.now in
    let now = g.W.Write.contents c.loop-word.out in
    let text = c.args.piece.now.items ++ flat_map word_text c.args.words.now in
    let so_far = subst (IsUnderway old now text c.loop-word.piece.items) (at_drop_more (flat_map word_text) c.args.words.now c.loop-word.word-index _ c.loop-word-test.true) c.loop-word.invariant in
    passed old now _ text c.loop-word.piece.items _ (flat_map word_text (drop (c.loop-word.word-index + 1) c.args.words.now)) _ so_far c.in_ok-put_word.ensures.ok
