use Rattle.std.proofs.Common.{◌≡◌, ◌++◌, drop, option_map}
use Rattle.serde_json.specs.View.{items_view}
use Rattle.census_issue.specs.Imported.{wholes}
use Rattle.census_issue.proofs.json_block.whole_numbers.Given as goal

abbrev pub invariant-loop-item : goal.invariant-loop-item
invariant-loop-item l = wholes (items_view l.items) ≡ option_map (λ rest. l.numbers.items ++ rest) (wholes (items_view (drop l.item-index l.items)))
