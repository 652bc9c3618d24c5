use Rattle.std.proofs.Common.{◌++◌, drop, map}
use Rattle.oct_ops.specs.Operations.{listed}
use Rattle.oct_json.specs.Json.{game_data, list}
use Rattle.oct_sheet.specs.Sheet.{game_sheet}
use Rattle.serde_json.specs.View.{items_of}
use Rattle.serde_json.specs.Written.{compact_text, items_text}
use Rattle.written.proofs.Piecewise.{IsUnderway}
use Rattle.oct_json.proofs.document.stream_each.Given as goal

abbrev pub invariant-loop-code : goal.invariant-loop-code
invariant-loop-code g l =
    IsUnderway (g.W.Write.contents l.fn.out) (g.W.Write.contents l.out)
    (l.fn.piece.items ++ (l.before ++ compact_text (list (λ k. game_data l.remarks (game_sheet (listed l.said.ops) k)) l.codes)))
    l.piece.items (items_text l.is_later (items_of (map (λ k. game_data l.remarks (game_sheet (listed l.said.ops) k)) (drop l.code-index l.codes))))
