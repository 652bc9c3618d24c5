use Rattle.std.proofs.Common.{◌≡◌, ◌++◌, take}
use Rattle.oct_text.specs.Escape.{escaped}
use Rattle.oct_text.proofs.escape.append_escaped.Given as goal

abbrev pub invariant-loop-byte : goal.invariant-loop-byte
invariant-loop-byte g l = l.out.items ≡ l.fn.out.items ++ escaped (take l.byte-index l.text)
