use Rattle.std.proofs.Common.{◌≡◌, map, take}
use Rattle.oct_code.specs.Code.{Code}
use Rattle.oct_said.specs.Noting.{said_of}
use Rattle.oct_said.specs.Said.{said_in}
use Rattle.oct_said.proofs.said.said_by_game.Given as goal

abbrev pub invariant-loop-op : goal.invariant-loop-op
invariant-loop-op g l = (c : Code) → said_in (λ periods. periods.items) l.table c ≡ said_of (map (λ op. op.now) (take l.op-index l.notes)) c
