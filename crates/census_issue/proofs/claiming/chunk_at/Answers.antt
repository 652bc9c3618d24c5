use Rattle.std.proofs.Common.{◌*◌, take, ap, ◌∙◌}
use Rattle.oct_bfile.proofs.Places.{rest_from, rest_from-drop}
use Rattle.census_issue.proofs.Chunks.{take_least}
use Rattle.census_issue.proofs.claiming.chunk_at.Goals as goal

pub returns-clause-value : goal.returns-clause-value
returns-clause-value c =
    take_least (rest_from (1024 * c.args.place) c.args.values.now) c.min.result 1024 c.min.ensures
    ∙ ap (take 1024) (rest_from-drop (1024 * c.args.place) c.args.values.now)
