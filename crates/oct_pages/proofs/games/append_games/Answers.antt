use Rattle.std.proofs.Common.{◌≡◌, sym, ap, ◌∙◌, subst}
use Rattle.std.specs.List.{flat_map}
use Rattle.oct_ops.specs.Operations.{listed}
use Rattle.oct_pages.specs.Catalogue.{game_lines}
use Rattle.oct_pages.proofs.BuiltGames.{AreHeld, all_held, codes_are, rest_held}
use Rattle.oct_pages.proofs.GameParts.{entries_games, entries_lines}
use Rattle.oct_ops.proofs.Growing.{extends_same, extends_trans}
use Rattle.oct_pages.proofs.Pagers.{showing, showing_next}
use Rattle.oct_pages.proofs.games.append_games.Goals as goal

pub loop-code-init : goal.loop-code-init
loop-code-init g c =
    let ops = c.args.said.now.ops in
    let held = c.games-games.result.now in
    let all : c.into_iter-code-iterator.result ≡ held.entries = c.into_iter-code-iterator.ensures.into_iter_gives ∙ c.iter-code-items.ensures.rest in
    let index = c.games-games.ensures in
    record {
      shown = showing _ _ _ _ (ap (entries_lines (listed ops)) all ∙ entries_games (listed ops) held.entries ∙ ap (flat_map (game_lines (listed ops))) (codes_are ops held c.len.ensures.ordered index));
      each = subst (AreHeld ops) (sym all) (all_held ops held c.len.ensures.ordered index);
      grown = extends_same c.args.out.now.items;
    }

pub loop-code-preserved : goal.loop-code-preserved
loop-code-preserved g c =
    let ops = c.args.said.now.ops in
    record {
      shown = showing_next _ _ _ _ _ _ _ _ _ (entries_lines (listed ops) c.next.new.self)
          (ap (entries_lines (listed ops)) c.in-Some.ensures.steps)
          c.loop-code.invariant.shown c.in_ok-append_game.ensures.ok;
      each = rest_held ops _ _ _ _ c.in-Some.ensures.steps c.loop-code.invariant.each;
      grown = extends_trans _ _ _ c.loop-code.invariant.grown c.in_ok-append_game.ensures.grown;
    }
