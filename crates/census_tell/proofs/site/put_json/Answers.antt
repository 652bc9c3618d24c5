use Rattle.std.proofs.Common.{◌++◌, ap, ◌∙◌, subst}
use Rattle.std.proofs.lemmas.Result.{on_ok_weaker}
use Rattle.oct_pages.specs.Contents.{game_content}
use Rattle.census_tell.specs.Site.{json_of}
use Rattle.oct_json.specs.Json.{game_data}
use Rattle.serde_json.specs.Written.{compact_text}
use Rattle.std.specs.Prelude.{codes}
use Rattle.census_tell.proofs.site.put_json.Goals as goal

pub returns-clause-ok : goal.returns-clause-ok
returns-clause-ok g c =
    let game = game_content c.args.game.now in
    let bytes = c.deref.ensures.value ∙ c.in_ok-extend_from_slice.ensures.items ∙ ap (λ t. t ++ codes "\n") (c.in_ok-write_game_json.ensures.ok ∙ ap (λ t. t ++ compact_text (game_data c.args.remarks.now game)) c.new-bytes.ensures.items) in
    on_ok_weaker c.put_named.result (λ e. subst (λ b. g.S.Folder.puts c.args.folder.now (json_of c.args.remarks.now game).name b c.put_named.new.folder) bytes e) c.put_named.ensures.ok
