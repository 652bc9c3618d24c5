use Rattle.std.proofs.Common.{[], ◌∷◌, ◌++◌, length, map, subst}
use Rattle.std.proofs.lemmas.Result.{on_ok_weaker}
use Rattle.oct_pages.specs.Catalogue.{game_text, values_lines}
use Rattle.oct_pages.specs.Sheet.{block_row_text, period_row_text}
use Rattle.oct_pages.specs.Pager.{AreShown}
use Rattle.oct_pages.proofs.Pagers.{shown_then}
use Rattle.oct_pages.proofs.games.append_sheet.Goals as goal

pub returns-clause-ok : goal.returns-clause-ok
returns-clause-ok g c =
    let sheet = c.args.sheet.now in
    let head = game_text sheet.code (length sheet.values.now) in
    let values = values_lines sheet.values.now in
    let blocks = map block_row_text c.deref.result.now in
    let periods = map period_row_text c.deref-2.result.now in
    on_ok_weaker c.show_each-2.result (λ last.
    subst (AreShown c.args.pager.now c.show_each-2.new.pager c.args.out.now.items c.show_each-2.new.out.items)
    (λ i. head ∷ values ++ map block_row_text (c.deref.ensures.value i) ++ map period_row_text (c.deref-2.ensures.value i))
    (shown_then _ _ _ _ _ _ (head ∷ values ++ blocks) periods
    (shown_then _ _ _ _ _ _ (head ∷ values) blocks
    (shown_then _ _ _ _ _ _ (head ∷ []) values c.in_ok-show.ensures.ok c.in_ok-append_values.ensures.ok)
    c.in_ok-show_each.ensures.ok) last)) c.show_each-2.ensures.ok
