-- Games with their least periods.
use Rattle.std.specs.Prelude.{List, [], ◌∷◌, ◌++◌, Option, Some, None, if◌then◌else◌}
use Rattle.std.specs.List.{All}
use Rattle.oct_code.specs.Code.{Code, code_eq}
use Rattle.oct_mex.specs.declared.period.SeenPeriod.{SeenPeriod}
use Rattle.oct_window.specs.Repeats.{IsLeastPeriod}
use Rattle.oct_proved.specs.declared.periods.ProvedPeriod.{ProvedPeriod}

-- each is the least period of its game, and holds from no earlier heap on
abbrev pub AreProved : List ProvedPeriod → Type 0
AreProved periods = All (λ p. IsLeastPeriod p.code p.seen) periods

-- the least period of a game, where the game is among them
abbrev pub period_in : List ProvedPeriod → Code → Option SeenPeriod
period_in [] c = None
period_in (p ∷ rest) c = if code_eq p.code c then Some p.seen else period_in rest c

abbrev pub proved_of : Code → SeenPeriod → ProvedPeriod
proved_of c seen = record { code = c; seen = seen }

-- with that of a game which is not among them yet
abbrev pub with_found : List ProvedPeriod → Code → SeenPeriod → Option SeenPeriod → List ProvedPeriod
with_found periods c seen None = periods ++ proved_of c seen ∷ []
with_found periods c seen (Some held) = periods

abbrev pub with_period : List ProvedPeriod → Code → SeenPeriod → List ProvedPeriod
with_period periods c seen = with_found periods c seen (period_in periods c)
