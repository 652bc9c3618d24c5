use Rattle.std.proofs.Common.{sym, ap, ◌∙◌}
use Rattle.oct_pages.specs.GamesIn.{content_in}
use Rattle.oct_views.proofs.KeptGames.{kept_more}
use Rattle.oct_views.proofs.kept.Kept.keep.Goals as goal

pub returns : goal.returns
returns g c = λ ops is are.
    kept_more ops c.args.self.now.games c.insert.new.self c.code-code.result c.args.game c.in-Ok.ensures.updates.0 (is ∙ ap (content_in ops) (sym c.code-code.ensures)) are
