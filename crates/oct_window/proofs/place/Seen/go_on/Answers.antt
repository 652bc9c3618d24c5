use Rattle.oct_window.proofs.place.Seen.go_on.Goals as goal

pub returns-then-ahead-comparison-clause-compared : goal.returns-then-ahead-comparison-clause-compared
returns-then-ahead-comparison-clause-compared g c = λ code row. c.go_ahead.ensures.compared code
