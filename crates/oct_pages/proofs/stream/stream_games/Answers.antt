use Rattle.std.proofs.Common.{◌≡◌, ◌++◌, refl, sym, ap, ◌∙◌, subst}
use Rattle.std.proofs.lemmas.List.Folds.{concat-append}
use Rattle.std.specs.List.{concat, flat_map}
use Rattle.oct_ops.specs.Operations.{listed}
use Rattle.written.proofs.Piecewise.{IsUnderway, begun, fronted, moved, put, spilled}
use Rattle.oct_pages.specs.Catalogue.{game_lines, games}
use Rattle.oct_pages.proofs.BuiltGames.{AreHeld, all_held, codes_are, rest_held}
use Rattle.oct_pages.proofs.GameParts.{entries_games, entries_lines}
use Rattle.oct_pages.proofs.Pagers.{all_seen}
use Rattle.oct_pages.proofs.stream.stream_games.Goals as goal

pub loop-code-init : goal.loop-code-init
loop-code-init g c =
    let ops = c.args.part.now.ops in
    let held = c.games-games.result.now in
    let old = g.W.Write.contents c.args.out.now in
    let all : c.into_iter-code-iterator.result ≡ held.entries = c.into_iter-code-iterator.ensures.into_iter_gives ∙ c.iter-code-items.ensures.rest in
    let index = c.games-games.ensures in
    let lines = ap (entries_lines (listed ops)) all ∙ entries_games (listed ops) held.entries ∙ ap (flat_map (game_lines (listed ops))) (codes_are ops held c.len-all.ensures.ordered index) in
    record {
      underway = subst (λ rest. IsUnderway old old (c.args.piece.now.items ++ concat rest) c.args.piece.now.items (concat (entries_lines (listed ops) c.into_iter-code-iterator.result))) lines
          (begun old c.args.piece.now.items (concat (entries_lines (listed ops) c.into_iter-code-iterator.result)));
      each = subst (AreHeld ops) (sym all) (all_held ops held c.len-all.ensures.ordered index);
    }

pub loop-code-preserved : goal.loop-code-preserved
loop-code-preserved g c =
    let ops = c.args.part.now.ops in
    let text = c.args.piece.now.items ++ concat (flat_map (game_lines (listed ops)) (games (listed ops))) in
    let old = g.W.Write.contents c.args.out.now in
    let before = g.W.Write.contents c.loop-code.out in
    let now = g.W.Write.contents c.spill.new.out in
    let piece = c.loop-code.piece.items in
    let next = concat (game_lines (listed ops) c.in-Some.code.now) in
    let rest = concat (entries_lines (listed ops) c.next.new.self) in
    let steps = ap (λ es. concat (entries_lines (listed ops) es)) c.in-Some.ensures.steps ∙ concat-append (game_lines (listed ops) c.in-Some.code.now) (entries_lines (listed ops) c.next.new.self) in
    let added = c.in_ok-append_game.ensures.ok.text ∙ ap (λ t. piece ++ t) (all_seen (game_lines (listed ops) c.in-Some.code.now)) in
    record {
      underway = spilled old before now text c.append_game.new.out.items c.spill.new.piece.items rest
          (moved old before before text c.append_game.new.out.items (piece ++ next) rest refl added
          (put old before text piece next rest (subst (IsUnderway old before text piece) steps c.loop-code.invariant.underway)))
          c.in_ok-spill.ensures.ok;
      each = rest_held ops _ _ _ _ c.in-Some.ensures.steps c.loop-code.invariant.each;
    }

pub returns : goal.returns
returns g c =
    let ops = listed c.args.part.now.ops in
    let text = c.args.piece.now.items ++ concat (flat_map (game_lines ops) (games ops)) in
    let old = g.W.Write.contents c.args.out.now in
    let now = g.W.Write.contents c.loop-code.out in
    fronted old now text c.loop-code.piece.items
    (subst (λ es. IsUnderway old now text c.loop-code.piece.items (concat (entries_lines ops es))) c.in-None.ensures.steps.0 c.loop-code.invariant.underway)
