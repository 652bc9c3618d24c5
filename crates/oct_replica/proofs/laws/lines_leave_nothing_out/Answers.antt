use Rattle.oct_replica.proofs.Complete as complete
use Rattle.oct_replica.proofs.laws.lines_leave_nothing_out.Goals as goal

pub returns : goal.returns
returns c = record {
  games = complete.games_are_shown;
  blocks = complete.blocks_are_shown;
  claims = complete.claims_are_shown;
  notes = complete.notes_are_shown;
  forks = complete.forks_are_shown;
  authors = complete.authors_are_shown;
}
