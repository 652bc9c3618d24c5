use Rattle.std.proofs.Common.{◌≡◌, ◌++◌, codes, take}
use Rattle.std.specs.List.{flat_map}
use Rattle.census_search.specs.SearchTexts.{heap_object}
use Rattle.census_search.proofs.search_text.append_heap_objects.Given as goal

abbrev pub invariant-loop-heap : goal.invariant-loop-heap
invariant-loop-heap l = l.text.items ≡ l.fn.text.items ++ flat_map (heap_object l.game.code l.found l.game.len (codes ",")) (take l.heap-index l.heaps)
