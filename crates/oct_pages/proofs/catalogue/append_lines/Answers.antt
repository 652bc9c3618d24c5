use Rattle.std.proofs.Common.{[], ◌∷◌, sym, ap, subst}
use Rattle.std.proofs.lemmas.Result.{on_ok_weaker}
use Rattle.std.specs.List.{flat_map}
use Rattle.oct_ops.specs.Operations.{listed}
use Rattle.oct_pages.specs.Catalogue.{game_lines, games, heading}
use Rattle.oct_pages.specs.Rest.{lines_after_games}
use Rattle.oct_pages.specs.Pager.{AreShown}
use Rattle.oct_pages.proofs.RestLines.{lines_split}
use Rattle.oct_pages.proofs.Pagers.{shown_then}
use Rattle.oct_pages.proofs.catalogue.append_lines.Goals as goal

pub returns-clause-ok : goal.returns-clause-ok
returns-clause-ok g c =
    let ops = listed c.args.said.now.ops in
    let whole = listed c.args.whole.now in
    let all_games = flat_map (game_lines ops) (games ops) in
    on_ok_weaker c.append_rest.result (λ last.
    subst (AreShown _ _ _ _) (sym (lines_split ops whole))
    (shown_then _ _ _ _ _ _ (heading ∷ all_games) (lines_after_games ops whole)
    (shown_then _ _ _ _ _ _ (heading ∷ []) all_games c.in_ok-show.ensures.ok c.in_ok-append_games.ensures.ok)
    (subst (AreShown _ _ _ _) (ap (λ store. lines_after_games (listed store) whole) c.store.ensures) last))) c.append_rest.ensures.ok
