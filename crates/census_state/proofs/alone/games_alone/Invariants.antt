use Rattle.std.proofs.Common.{◌≡◌, drop}
use Rattle.oct_ops.specs.Operations.{union}
use Rattle.census_state.specs.Alone.{only_of}
use Rattle.census_state.proofs.alone.games_alone.Given as goal

abbrev pub invariant-loop-code : goal.invariant-loop-code
invariant-loop-code l = union l.part (only_of (drop l.code-index l.named) l.held.ops) ≡ only_of l.named l.held.ops
