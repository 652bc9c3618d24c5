use Rattle.std.proofs.Common.{◌≡◌, ◌-◌}
use Rattle.oct_pages.specs.GamesIn.{content_in}
use Rattle.census_issue.specs.Extending.{extended, extended_by}
use Rattle.census_issue.proofs.extending.extend_game.Given as goal

abbrev pub invariant-loop-issued : goal.invariant-loop-issued
invariant-loop-issued g l = record {
  along : extended l.code l.count l.fn.said ≡ extended_by (64 - l.issued) l.code l.count l.said l.issued;
  game : l.game ≡ content_in l.said.ops l.code;
}
