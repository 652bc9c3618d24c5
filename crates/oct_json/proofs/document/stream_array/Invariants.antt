use Rattle.std.proofs.Common.{◌++◌, drop, map}
use Rattle.serde_json.specs.Data.{array}
use Rattle.serde_json.specs.View.{items_of}
use Rattle.serde_json.specs.Written.{compact_text, items_text}
use Rattle.written.proofs.Piecewise.{IsUnderway}
use Rattle.oct_json.proofs.document.stream_array.Given as goal

abbrev pub invariant-loop-item : goal.invariant-loop-item
invariant-loop-item g l =
    IsUnderway (g.W.Write.contents l.fn.out) (g.W.Write.contents l.out)
    (l.fn.piece.items ++ (l.before ++ compact_text (array (items_of (map g.T.ToJson.form l.items)))))
    l.piece.items (items_text l.is_later (items_of (map g.T.ToJson.form (drop l.item-index l.items))))
