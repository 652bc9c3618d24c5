use Rattle.std.proofs.Common.{◌++◌, ap, ◌∙◌, subst}
use Rattle.std.proofs.lemmas.Result.{on_ok_weaker}
use Rattle.oct_pages.specs.Contents.{game_content}
use Rattle.census_tell.specs.Site.{html_of}
use Rattle.oct_views.specs.Report.{game_html}
use Rattle.census_tell.proofs.site.put_html.Goals as goal

pub returns-clause-ok : goal.returns-clause-ok
returns-clause-ok g c =
    let game = game_content c.args.game.now in
    let notes = c.args.remarks.now in
    let bytes = c.deref.ensures.value ∙ c.in_ok-write_game_html.ensures.ok ∙ ap (λ t. t ++ game_html c.args.beside c.args.proved.now notes game) c.new-bytes.ensures.items in
    on_ok_weaker c.put_named.result (λ e. subst (λ b. g.S.Folder.puts c.args.folder.now (html_of c.args.beside c.args.proved.now notes game).name b c.put_named.new.folder) bytes e) c.put_named.ensures.ok
