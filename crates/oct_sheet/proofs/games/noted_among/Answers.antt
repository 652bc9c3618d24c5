use Rattle.std.proofs.Common.{arith}
use Rattle.std.proofs.lemmas.Grind.{common_steps}
use Rattle.std.proofs.lemmas.List.{map-append}
use Rattle.std.proofs.lemmas.List.Elements.{filter_map-append}
use Rattle.oct_sheet.proofs.games.noted_among.Goals as goal
use Rattle.oct_sheet.proofs.games.noted_among.Goals.{in-Some+in_ok-push, in_default}

pub loop-op-preserved : goal.loop-op-preserved
loop-op-preserved g c =
    elim c.match-branch-2.branch [
      | in-Some+in_ok-push w ↦ grind (arith, common_steps, filter_map-append, map-append)
      | in_default w ↦ grind (arith, common_steps, filter_map-append, map-append)
    ]
