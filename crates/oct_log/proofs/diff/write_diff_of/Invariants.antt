use Rattle.std.proofs.Common.{◌≡◌, take}
use Rattle.std.specs.List.{flat_map}
use Rattle.oct_ops.specs.Operations.{listed}
use Rattle.oct_sheet.specs.Names.{author_name}
use Rattle.oct_sheet.specs.Sheet.{names_of}
use Rattle.oct_log.specs.Diff.{game_part}
use Rattle.oct_log.proofs.diff.write_diff_of.Given as goal

abbrev pub invariant-loop-code : goal.invariant-loop-code
invariant-loop-code g l = l.text.items ≡ flat_map (game_part l.one l.other (author_name (names_of (listed l.all.ops))) l.all.ops) (take l.code-index l.codes)
