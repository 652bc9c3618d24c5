use Rattle.census_tests.proofs.saved.a_search_is_taken_up_again.Goals as goal

pub extend-requires-clause-row : goal.extend-requires-clause-row
extend-requires-clause-row g c = c.new-row.ensures.row c.expect-code.result
