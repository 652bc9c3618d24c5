use Rattle.std.proofs.Common.{◌≡◌, ◌++◌}
use Rattle.std.specs.List.{filter, flat_map}
use Rattle.oct_ops.specs.Operations.{listed}
use Rattle.oct_sheet.specs.Names.{author_name}
use Rattle.oct_sheet.specs.Sheet.{names_of}
use Rattle.oct_log.specs.Log.{is_wanted, log_line, log_text}
use Rattle.oct_log.proofs.log.write_log.Given as goal

abbrev pub invariant-loop-op : goal.invariant-loop-op
invariant-loop-op g l = l.text.items ++ flat_map (log_line (author_name (names_of (listed l.said.ops)))) (filter (is_wanted l.wanted) l.op-iterator) ≡ log_text l.wanted (listed l.said.ops)
