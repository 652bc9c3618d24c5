-- What is held after bytes were handed to it, under no author.
use Rattle.std.specs.Prelude.{◌≡◌, ◌<◌, List, length, take}
use Rattle.oct_ops.specs.Body.{Operation}
use Rattle.oct_ops.specs.Operations.{Operations, set_of, union}
use Rattle.oct_record.specs.declared.error.TakeError.{TakeError}
use Rattle.oct_record.specs.declared.error.TakeError.TheVariants.{Version, Refused, OutOfMemory}

-- what a refusal leaves: without memory the first operations of the list, where one more was due, and else all as it was
abbrev pub LeavesAt : Operations → Operations → List Operation → TakeError → Type 0
LeavesAt old new list Version = new ≡ old
LeavesAt old new list Refused = new ≡ old
LeavesAt old new list (OutOfMemory done) = (done < length list) × (new ≡ union old (set_of (take done list)))
