use Rattle.std.proofs.Common.{◌≡◌, ◌++◌}
use Rattle.std.specs.List.{flat_map}
use Rattle.oct_ops.specs.Operations.{listed}
use Rattle.oct_sheet.specs.Names.{name_in}
use Rattle.oct_log.specs.Diff.{twice_line, twice_part}
use Rattle.oct_log.specs.Twice.{sides_of}
use Rattle.oct_log.proofs.diff.append_twice.Given as goal

abbrev pub invariant-loop-op : goal.invariant-loop-op
invariant-loop-op g l =
    l.out.items ++ flat_map (twice_line l.fn.one l.fn.other (name_in (λ text. text.now) l.fn.names) (sides_of l.fn.one l.fn.other (listed l.fn.all))) l.op-iterator
    ≡ l.fn.out.items ++ twice_part l.fn.one l.fn.other (name_in (λ text. text.now) l.fn.names) l.fn.all
