-- What holds of what two sets differ by.
use Rattle.std.specs.Prelude.{◌≡◌, []}
use Rattle.oct_ops.specs.Operations.{Operations}
use Rattle.oct_log.specs.Diff.{diff_text}

-- where there is no line, both sets have the same operations
abbrev pub EmptyOfTheSame : Type 0
EmptyOfTheSame = (one other : Operations) → diff_text one other ≡ [] → one ≡ other

-- a set does not differ from itself
abbrev pub TheSameIsEmpty : Type 0
TheSameIsEmpty = (ops : Operations) → diff_text ops ops ≡ []
