-- A period that the first values show is the least one of the game.
use Rattle.std.proofs.Common.{arith}
use Rattle.oct_window.proofs.Watching.{from_earlier}
use Rattle.oct_window.specs.Repeats.{ShownPeriodsAreLeast}

pub shown_periods_are_least : ShownPeriodsAreLeast
shown_periods_are_least c count seen shown earlier shorter holds = record {
  repeats = record {
    first = shown.first;
    some = shown.some;
    holds = holds;
    least = λ start period some less other. shorter seen.start period less (record {
      first = shown.first;
      some = some;
      enough = omega (arith, shown.enough);
      seen = λ n high low. from_earlier c seen.start seen.period start period holds shown.some other n high;
    });
  };
  earliest = λ start first less other. earlier start less (record {
    first = first;
    some = shown.some;
    enough = omega (arith, shown.enough);
    seen = λ n high low. other n high;
  });
}
