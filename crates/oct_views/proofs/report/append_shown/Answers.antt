use Rattle.std.proofs.lemmas.Result.{on_ok_weaker}
use Rattle.oct_ops.specs.Operations.{listed}
use Rattle.oct_overview.proofs.Choosing.{least_found}
use Rattle.oct_pages.specs.Contents.{game_content}
use Rattle.oct_pages.specs.Sheet.{sheet_by}
use Rattle.oct_views.proofs.Sections.{section_is}
use Rattle.oct_views.proofs.report.append_shown.Goals as goal

pub with_least-shown-requires : goal.with_least-shown-requires
with_least-shown-requires g c = least_found c.args.game.now (listed c.args.ops.now) (game_content c.in_ok-sheet.sheet) _ c.in_ok-sheet.ensures c.find_period-found.ensures.value

pub returns : goal.returns
returns g c =
    on_ok_weaker c.append_section.result
    (section_is c.args.remarks.now c.args.how (game_content c.with_least-shown.result) (game_content c.in_ok-sheet.sheet) (sheet_by c.args.game.now (listed c.args.ops.now))
    c.args.out.now.items c.append_section.new.out.items c.with_least-shown.ensures c.in_ok-sheet.ensures)
    c.append_section.ensures.ok
