use Rattle.std.proofs.Common.{◌≡◌, ◌++◌, drop}
use Rattle.std.specs.List.{concat, flat_map}
use Rattle.oct_ops.specs.Operations.{listed}
use Rattle.oct_pages.specs.Catalogue.{game_lines}
use Rattle.oct_pages.proofs.making_ready.append_others.Given as goal

abbrev pub invariant-loop-code : goal.invariant-loop-code
invariant-loop-code g l =
    l.out.items ++ concat (flat_map (game_lines (listed l.said.ops)) (drop l.code-index l.others)) ≡ l.fn.out.items ++ concat (flat_map (game_lines (listed l.said.ops)) l.others)
