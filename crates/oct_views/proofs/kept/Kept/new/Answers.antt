use Rattle.oct_pages.proofs.BuiltGames.{none_kept}
use Rattle.oct_views.proofs.kept.Kept.new.Goals as goal

pub returns : goal.returns
returns g c = λ ops. none_kept ops c.new.result c.new.ensures.empty
