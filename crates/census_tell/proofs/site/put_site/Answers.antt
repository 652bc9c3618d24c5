use Rattle.std.proofs.Common.{◌++◌, [], ◌∷◌, map, refl, ◌∙◌, subst}
use Rattle.std.proofs.lemmas.Result.{on_ok_weaker}
use Rattle.std.specs.List.{flat_map}
use Rattle.std.specs.Prelude.{codes}
use Rattle.oct_ops.specs.Operations.{listed}
use Rattle.oct_views.specs.Report.{index_by}
use Rattle.oct_sheet.specs.Sheet.{sheet}
use Rattle.oct_views.specs.Report.{shown_summary}
use Rattle.census_tell.proofs.Shelves.{filled_then}
use Rattle.census_tell.specs.Site.{Filled, shown_files, index_of}
use Rattle.census_tell.proofs.site.put_site.Goals as goal

pub returns-clause-ok : goal.returns-clause-ok
returns-clause-ok g c =
    let all = sheet (listed c.args.held.now.ops) in
    let puts = g.S.Folder.puts in
    let rows = c.deref.ensures.value ∙ c.in_ok-put_games.ensures.rows ∙ (λ i. c.new-rows.ensures.items i ++ map (shown_summary (c.in_ok-remarks.ensures i)) all.games) in
    on_ok_weaker c.put_index.result
    (λ e. (
      c.put.new.self,
      c.in_ok-put.ensures.ok,
      (
        c.put_style.new.folder,
        c.in_ok-put_style.ensures.ok,
        filled_then puts c.put_style.new.folder c.put_games.new.folder c.put_index.new.folder (flat_map (shown_files c.args.beside c.args.proved.now all.remarks) all.games) (index_of c.args.proved.now all ∷ [])
            (subst (λ notes. Filled puts c.put_style.new.folder (flat_map (shown_files c.args.beside c.args.proved.now notes) all.games) c.put_games.new.folder) c.in_ok-remarks.ensures c.in_ok-put_games.ensures.put)
            (c.put_index.new.folder, subst (λ r. puts c.put_games.new.folder (codes "index.html") (index_by c.args.proved.now r all) c.put_index.new.folder) rows e, refl),
      ),
    ))
    c.put_index.ensures.ok
