use Rattle.std.proofs.Common.{◌≡◌, ◌++◌, ◌<◌, take}
use Rattle.std.specs.List.{AllWithin, flat_map}
use Rattle.oct_saved.specs.Saved.{word_bytes}
use Rattle.oct_saved.proofs.output.put_numbers.Given as goal

abbrev pub invariant-loop-number : goal.invariant-loop-number
invariant-loop-number g l = record {
  bytes : l.out.items ≡ l.fn.out.items ++ flat_map (λ x. word_bytes (g.T.Word.number x)) (take l.number-index l.numbers);
  fits : AllWithin (λ x. g.T.Word.number x < g.T.Word.bound) l.numbers 0 l.number-index;
}
