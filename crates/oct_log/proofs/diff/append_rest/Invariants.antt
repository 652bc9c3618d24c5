use Rattle.std.proofs.Common.{◌≡◌, ◌++◌}
use Rattle.std.specs.List.{filter, flat_map}
use Rattle.oct_sheet.specs.Names.{name_in}
use Rattle.oct_log.specs.Diff.{diff_line, has_no_game, rest_part}
use Rattle.oct_log.proofs.diff.append_rest.Given as goal

abbrev pub invariant-loop-op : goal.invariant-loop-op
invariant-loop-op g l =
    l.out.items ++ flat_map (diff_line l.fn.one l.fn.other (name_in (λ text. text.now) l.fn.names)) (filter has_no_game l.op-iterator)
    ≡ l.fn.out.items ++ rest_part l.fn.one l.fn.other (name_in (λ text. text.now) l.fn.names) l.fn.all
