use Rattle.std.proofs.Common.{◌≡◌, sym, ap, ◌∙◌, subst}
use Rattle.std.proofs.lemmas.Result.{on_ok_weaker}
use Rattle.std.specs.Option.{option_copied}
use Rattle.oct_ops.specs.Operations.{listed}
use Rattle.oct_pages.specs.Catalogue.{game_lines}
use Rattle.oct_pages.specs.GamesIn.{content_in}
use Rattle.oct_pages.specs.Pager.{AreShown}
use Rattle.oct_pages.proofs.BuiltGames.{kept_is}
use Rattle.oct_pages.proofs.Pagers.{over_shown}
use Rattle.oct_pages.proofs.SheetLaws.{group_held, sheet_by-lines}
use Rattle.oct_pages.proofs.games.append_game.Goals as goal

pub append_game_lines-requires : goal.append_game_lines-requires
append_game_lines-requires g c =
    let ops = c.args.said.now.ops in
    let kept : c.in-Some.game.now ≡ content_in ops c.args.code = kept_is ops c.args.kept.now c.args.code c.in-Some.game.now c.requires.kept (ap option_copied (sym c.in-Some.is) ∙ c.get.ensures.value) in
    group_held ops c.args.code c.in-Some.game.now c.args.ops.now kept c.requires.its

pub append_game_lines-requires-2 : goal.append_game_lines-requires-2
append_game_lines-requires-2 g c = group_held c.args.said.now.ops c.args.code c.in_ok-game.game c.args.ops.now c.in_ok-game.ensures c.requires.its

pub returns-in-Some-clause-ok : goal.returns-in-Some-clause-ok
returns-in-Some-clause-ok g c =
    let ops = c.args.said.now.ops in
    let kept : c.in-Some.game.now ≡ content_in ops c.args.code = kept_is ops c.args.kept.now c.args.code c.in-Some.game.now c.requires.kept (ap option_copied (sym c.in-Some.is) ∙ c.get.ensures.value) in
    on_ok_weaker c.append_game_lines.result (subst (AreShown _ _ _ _) (sheet_by-lines ops c.args.code c.in-Some.game.now c.args.ops.now kept c.requires.its)) c.append_game_lines.ensures.ok

pub returns-clause-ok : goal.returns-clause-ok
returns-clause-ok g c =
    on_ok_weaker c.append_game_lines-2.result (subst (AreShown _ _ _ _) (sheet_by-lines c.args.said.now.ops c.args.code c.in_ok-game.game c.args.ops.now c.in_ok-game.ensures c.requires.its)) c.append_game_lines-2.ensures.ok

pub returns-then-is_over-clause-ok : goal.returns-then-is_over-clause-ok
returns-then-is_over-clause-ok g c = over_shown c.args.pager.now c.args.out.now.items (game_lines (listed c.args.said.now.ops) c.args.code) (sym c.is_over.ensures ∙ c.if-is_over.true)
