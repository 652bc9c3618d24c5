use Rattle.std.proofs.Common.{◌≡◌, ◌++◌, take}
use Rattle.std.specs.List.{flat_map}
use Rattle.census_search.specs.SearchTexts.{game_line, told_line}
use Rattle.census_search.proofs.search_text.lines_text.Given as goal

abbrev pub invariant-loop-heap : goal.invariant-loop-heap
invariant-loop-heap l = l.text.items ≡ game_line l.game.code l.found l.game.len ++ flat_map (told_line l.game.code l.found l.game.len) (take l.heap-index l.heaps)
