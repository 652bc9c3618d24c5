use Rattle.oct_window.proofs.comparison.Comparison.go_ahead.Goals as goal

pub returns-clause-compared : goal.returns-clause-compared
returns-clause-compared g c code compared = record {
  first = compared.first;
  second = c.go_to.ensures.right code compared.second;
  again = compared.again;
  earliest = compared.earliest;
}
