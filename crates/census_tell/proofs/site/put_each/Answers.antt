use Rattle.std.proofs.Common.{append-nil, [], ◌∷◌, ◌++◌, ◌+◌, map, take, drop, refl, sym, ap, ◌∙◌, subst, append_assoc, take_all}
use Rattle.std.specs.List.{flat_map}
use Rattle.std.proofs.lemmas.List.{drop_all, drop_more, map-append, take_more}
use Rattle.oct_code.specs.Code.{Code}
use Rattle.oct_ops.specs.Operations.{listed}
use Rattle.oct_sheet.specs.Sheet.{game_sheet}
use Rattle.oct_views.specs.Report.{shown_summary}
use Rattle.census_tell.proofs.Shelves.{Filling, filling_begins, filling_ends, filling_more}
use Rattle.census_tell.specs.Site.{shown_files}
use Rattle.census_tell.proofs.site.put_each.Goals as goal

pub loop-code-init : goal.loop-code-init
loop-code-init g c = record {
  rows = sym (append-nil c.args.rows.now.items);
  put = filling_begins g.S.Folder.puts c.args.folder.now _ _ refl;
}

pub loop-code-preserved : goal.loop-code-preserved
loop-code-preserved g c =
    let ops = c.args.held.now.ops in
    let row = λ (k : Code). shown_summary c.args.remarks.now (game_sheet (listed ops) k) in
    let files = λ (k : Code). shown_files c.args.beside c.args.proved.now c.args.remarks.now (game_sheet (listed ops) k) in
    let all = c.args.codes.now in
    let i = c.loop-code.code-index in
    let here = c.code-item.result in
    let before = take i all in
    let (mid, first, rest) = c.in_ok-put_game.ensures.put in
    let next = drop_more all i _ c.loop-code-test.true ∙ ap (λ k. k ∷ drop (i + 1) all) (sym c.code-item.is) in
    record {
      rows = c.in_ok-put_game.ensures.rows ∙ ap (λ t. t ++ row here ∷ []) c.loop-code.invariant.rows ∙ append_assoc c.args.rows.now.items (map row before) (row here ∷ [])
          ∙ ap (λ t. c.args.rows.now.items ++ t) (sym (map-append row before (here ∷ [])) ∙ ap (map row) (ap (λ k. before ++ k ∷ []) c.code-item.is ∙ sym (take_more all i _ c.loop-code-test.true)));
      put = filling_more g.S.Folder.puts c.args.folder.now c.loop-code.folder c.put_game.new.folder (files here) (flat_map files (drop (i + 1) all)) (flat_map files all)
          (subst (λ ks. Filling g.S.Folder.puts c.args.folder.now c.loop-code.folder (flat_map files ks) (flat_map files all)) next c.loop-code.invariant.put) (mid, c.tell.ensures _ _ mid first, rest);
    }

pub returns-clause-rows : goal.returns-clause-rows
returns-clause-rows g c =
    c.loop-code.invariant.rows
    ∙ ap (λ ks. c.args.rows.now.items ++ map (λ k. shown_summary c.args.remarks.now (game_sheet (listed c.args.held.now.ops) k)) ks) (take_all c.loop-code.code-index c.args.codes.now c.loop-code-test.false)

pub returns-clause-put : goal.returns-clause-put
returns-clause-put g c =
    let files = λ (k : Code). shown_files c.args.beside c.args.proved.now c.args.remarks.now (game_sheet (listed c.args.held.now.ops) k) in
    let all = c.args.codes.now in
    filling_ends g.S.Folder.puts c.args.folder.now c.loop-code.folder (flat_map files all)
    (subst (λ ks. Filling g.S.Folder.puts c.args.folder.now c.loop-code.folder (flat_map files ks) (flat_map files all)) (drop_all c.loop-code.code-index all c.loop-code-test.false) c.loop-code.invariant.put)
