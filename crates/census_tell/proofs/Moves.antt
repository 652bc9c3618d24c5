-- A move that wins a position is in one of its heaps.
use Rattle.std.proofs.Common.{ℕ, ◌<◌, List, length, Option, Some, None, Result, Ok, Err}
use Rattle.std.specs.Prelude.{IfOk, IfSome}
use Rattle.oct_code.specs.Code.{Code}
use Rattle.oct_period.specs.Moving.{IsWinningAnswer}
use Rattle.oct_period.specs.declared.moving.Move.{Move}
use Rattle.oct_period.specs.declared.unknown.Unknown.{Unknown}

pub is_within : (c : Code) (heaps : List ℕ) (answer : Result (Option Move) Unknown) → IfOk answer (IsWinningAnswer c heaps) → IfOk answer (λ found. IfSome found (λ m. m.index < length heaps))
is_within c heaps (Ok (Some m)) wins = wins.move.within
is_within c heaps (Ok None) wins = tt
is_within c heaps (Err unknown) wins = tt
