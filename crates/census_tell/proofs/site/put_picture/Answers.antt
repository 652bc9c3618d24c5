use Rattle.std.proofs.Common.{◌++◌, ap, ◌∙◌, subst}
use Rattle.std.proofs.lemmas.Result.{on_ok_weaker}
use Rattle.oct_pages.specs.Contents.{game_content}
use Rattle.census_tell.specs.Site.{picture_of}
use Rattle.oct_plot.specs.Plot.{plot}
use Rattle.census_tell.proofs.site.put_picture.Goals as goal

pub returns-clause-ok : goal.returns-clause-ok
returns-clause-ok g c =
    let game = game_content c.args.game.now in
    let bytes = c.deref.ensures.value ∙ c.in_ok-write_plot.ensures.ok ∙ ap (λ t. t ++ plot game.code game.values game.proved) c.new-bytes.ensures.items in
    on_ok_weaker c.put_named.result (λ e. subst (λ b. g.S.Folder.puts c.args.folder.now (picture_of game).name b c.put_named.new.folder) bytes e) c.put_named.ensures.ok
