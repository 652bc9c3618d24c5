use Rattle.std.proofs.Common.{map, ap, ◌∙◌, arith}
use Rattle.std.proofs.lemmas.Grind.{common_steps}
use Rattle.oct_sheet.specs.Names.{author_name}
use Rattle.oct_log.proofs.log.write_log.Goals as goal

pub loop-op-preserved-in-Continue-branch-3 : goal.loop-op-preserved-in-Continue-branch-3
loop-op-preserved-in-Continue-branch-3 g c =
    let author = c.author.result in
    let name = c.name_in.ensures ∙ c.in_ok-names.ensures.names author ∙ ap (λ notes. author_name (map (λ op. op.now) notes) author) c.deref.ensures.value ∙ ap (λ notes. author_name notes author) c.in_ok-notes.ensures in
    grind (arith, common_steps, name)
