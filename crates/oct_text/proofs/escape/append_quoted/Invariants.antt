use Rattle.std.proofs.Common.{◌≡◌, ◌++◌, take}
use Rattle.oct_text.specs.Escape.{quoted}
use Rattle.oct_text.proofs.escape.append_quoted.Given as goal

abbrev pub invariant-loop-byte : goal.invariant-loop-byte
invariant-loop-byte g l = l.out.items ≡ l.fn.out.items ++ quoted (take l.byte-index l.text)
