use Rattle.std.proofs.Common.{◌≡◌, ◌++◌, drop, map, false}
use Rattle.serde_json.specs.View.{items_of}
use Rattle.serde_json.specs.Written.{items_text}
use Rattle.oct_json.specs.Json.{count}
use Rattle.oct_ops.specs.Growth.{Extends}
use Rattle.oct_json.proofs.forms.append_numbers.Given as goal

abbrev pub invariant-loop-number : goal.invariant-loop-number
invariant-loop-number l = record {
  left : l.out.items ++ items_text l.is_later (items_of (map count (drop l.number-index l.numbers))) ≡ l.fn.out.items ++ items_text false (items_of (map count l.numbers));
  grown : Extends l.fn.out.items l.out.items;
}
