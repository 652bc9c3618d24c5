use Rattle.std.proofs.Common.{◌≡◌, [], drop}
use Rattle.census_issue.specs.Finding.{turn_of}
use Rattle.census_issue.specs.Turns.{KeptUpTo, in_turn, stages}
use Rattle.census_issue.proofs.surveying.turns.Given as goal

abbrev pub invariant-loop-code : goal.invariant-loop-code
invariant-loop-code g l = record {
  turns :
      in_turn (turn_of l.aim l.count) l.codes (record { replica = l.fn.said; text = [] })
      ≡ in_turn (turn_of l.aim l.count) (drop l.code-index l.codes) (record { replica = l.said; text = l.text.items });
  kept : KeptUpTo g.K.TurnKeeper.keeps l.fn.keeper
      (stages (turn_of l.aim l.count) l.codes (record { replica = l.fn.said; text = [] }))
      (stages (turn_of l.aim l.count) (drop l.code-index l.codes) (record { replica = l.said; text = l.text.items }))
      l.keeper;
}
