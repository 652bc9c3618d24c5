use Rattle.std.proofs.Common.{◌≡◌, sym, ap, ◌∙◌}
use Rattle.std.proofs.lemmas.Result.{on_ok_weaker}
use Rattle.std.specs.Option.{option_copied}
use Rattle.oct_pages.specs.GamesIn.{content_in}
use Rattle.oct_pages.proofs.BuiltGames.{kept_is}
use Rattle.oct_pages.proofs.SheetLaws.{group_held, sheet_by-is}
use Rattle.oct_pages.specs.Sheet.{game_sheet, sheet_by}
use Rattle.oct_ops.specs.Operations.{listed}
use Rattle.oct_views.proofs.Sections.{shown_is}
use Rattle.oct_views.proofs.report.append_game.Goals as goal

pub append_shown-requires : goal.append_shown-requires
append_shown-requires g c =
    let ops = c.args.said.now.ops in
    let kept : c.in-Some.game.now ≡ content_in ops c.args.code = kept_is ops c.args.kept.now c.args.code c.in-Some.game.now c.requires.kept (ap option_copied (sym c.in-Some.is) ∙ c.get.ensures.value) in
    group_held ops c.args.code c.in-Some.game.now c.args.ops.now kept c.requires.its

pub append_shown-requires-2 : goal.append_shown-requires-2
append_shown-requires-2 g c = group_held c.args.said.now.ops c.args.code c.in_ok-game.game c.args.ops.now c.in_ok-game.ensures c.requires.its

pub returns-in-Some : goal.returns-in-Some
returns-in-Some g c =
    let ops = c.args.said.now.ops in
    let kept : c.in-Some.game.now ≡ content_in ops c.args.code = kept_is ops c.args.kept.now c.args.code c.in-Some.game.now c.requires.kept (ap option_copied (sym c.in-Some.is) ∙ c.get.ensures.value) in
    on_ok_weaker c.append_shown.result
    (shown_is c.args.remarks.now c.args.how (sheet_by c.in-Some.game.now (listed c.args.ops.now)) (game_sheet (listed ops) c.args.code)
    c.args.out.now.items c.append_shown.new.out.items (sheet_by-is ops c.args.code c.in-Some.game.now c.args.ops.now kept c.requires.its))
    c.append_shown.ensures

pub returns : goal.returns
returns g c =
    let ops = c.args.said.now.ops in
    on_ok_weaker c.append_shown-2.result
    (shown_is c.args.remarks.now c.args.how (sheet_by c.in_ok-game.game (listed c.args.ops.now)) (game_sheet (listed ops) c.args.code)
    c.args.out.now.items c.append_shown-2.new.out.items (sheet_by-is ops c.args.code c.in_ok-game.game c.args.ops.now c.in_ok-game.ensures c.requires.its))
    c.append_shown-2.ensures
