use Rattle.std.proofs.Common.{◌++◌, ap, ◌∙◌}
use Rattle.std.specs.List.{flat_map}
use Rattle.std.proofs.lemmas.Result.{on_ok_weaker}
use Rattle.oct_ops.proofs.Growing.{grown_thrice}
use Rattle.oct_ops.specs.Operations.{listed}
use Rattle.oct_pages.specs.Sheet.{game_sheet}
use Rattle.oct_overview.specs.Line.{is_selected, line_of}
use Rattle.oct_sheet.specs.Sheet.{remarks_of}
use Rattle.oct_overview.specs.Overview.{told_if, told_of}
use Rattle.oct_overview.proofs.Choosing.{flat_map-filter}
use Rattle.oct_overview.proofs.overview.append_named.Goals as goal

pub returns-clause-ok : goal.returns-clause-ok
returns-clause-ok g c =
    let ops = listed c.args.said.now.ops in
    let old = c.args.out.now.items in
    let headed = c.append_text.new.out.items in
    let told = c.append_games.new.out.items in
    on_ok_weaker c.append_text-2.result
    (λ e. grown_thrice old headed told _ _ _ _
    (c.in_ok-append_text.ensures.ok ∙ (λ i. old ++ c.head.ensures i))
    (c.in_ok-append_games.ensures.ok
    ∙ ap (λ notes. headed ++ flat_map (λ x. told_if c.args.which.now c.args.listing notes (game_sheet ops x)) c.args.codes.now) c.in_ok-remarks.ensures
    ∙ ap (λ t. headed ++ t) (flat_map-filter (λ x. is_selected c.args.which.now (line_of (remarks_of ops) (game_sheet ops x))) (told_of c.args.listing ops) c.args.codes.now))
    (e ∙ (λ i. told ++ c.foot.ensures i)))
    c.append_text-2.ensures.ok
