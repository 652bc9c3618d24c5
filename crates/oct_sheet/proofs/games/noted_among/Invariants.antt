use Rattle.std.proofs.Common.{◌≡◌, map, take}
use Rattle.oct_sheet.specs.Sheet.{noted_games}
use Rattle.oct_sheet.proofs.games.noted_among.Given as goal

abbrev pub invariant-loop-op : goal.invariant-loop-op
invariant-loop-op g l = l.codes.items ≡ noted_games (map (λ op. op.now) (take l.op-index l.notes))
