use Rattle.std.proofs.Common.{◌++◌, sym, ap, ◌∙◌}
use Rattle.std.proofs.lemmas.List.{append-nil}
use Rattle.std.specs.List.{flat_map}
use Rattle.oct_ops.specs.Operations.{Operations, listed}
use Rattle.oct_ops.specs.OrderLaws.{op_cmp_total, op_cmp_exact}
use Rattle.oct_ops.specs.SetLaws.{listed-empty}
use Rattle.oct_sheet.specs.Names.{name_in}
use Rattle.oct_log.specs.Diff.{diff_line}
use Rattle.oct_log.proofs.diff.append_game.Goals as goal

pub returns-in_default : goal.returns-in_default
returns-in_default g c =
    let line = diff_line c.args.one.now c.args.other.now (name_in (λ text. text.now) c.args.names.now) in
    sym (append-nil c.args.out.now.items)
    ∙ ap (λ ops. c.args.out.now.items ++ flat_map line ops) (sym (listed-empty op_cmp_total op_cmp_exact) ∙ ap (λ (held : Operations). listed held) c.in_default.ensures)
