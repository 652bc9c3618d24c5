use Rattle.std.proofs.Common.{◌++◌, drop}
use Rattle.std.specs.List.{flat_map}
use Rattle.written.proofs.Piecewise.{IsUnderway}
use Rattle.oct_pages.specs.Outlet.{word_text}
use Rattle.oct_pages.proofs.outlet.put_words.Given as goal

abbrev pub invariant-loop-word : goal.invariant-loop-word
invariant-loop-word g l = IsUnderway (g.W.Write.contents l.fn.out) (g.W.Write.contents l.out) (l.fn.piece.items ++ flat_map word_text l.words) l.piece.items (flat_map word_text (drop l.word-index l.words))
