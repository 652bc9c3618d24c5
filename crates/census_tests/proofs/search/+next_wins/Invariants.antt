use Rattle.census_tests.proofs.search.+next_wins.Given as goal

abbrev pub decreases-next_wins : goal.decreases-next_wins
decreases-next_wins l = l.moves
