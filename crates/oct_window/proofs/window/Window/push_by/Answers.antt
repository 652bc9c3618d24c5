use Rattle.std.proofs.Common.{◌≡◌, ◌∙◌, false, ap, ap₂, subst, subst₂, sym}
use Rattle.oct_mex.specs.NimValues.{nim_value}
use Rattle.oct_mex.specs.Rare.{is_rare}
use Rattle.oct_window.specs.BySets.{AreRight}
use Rattle.oct_window.specs.Windows.{IsKnown, IsSameGame}
use Rattle.oct_window.proofs.Sets.{if_some, same_game}
use Rattle.oct_window.proofs.window.Window.push_by.Goals.{in-Some, in-None}
use Rattle.oct_window.proofs.window.Window.push_by.Goals as goal

pub returns-then-is_next-clause-right : goal.returns-then-is_next-clause-right
returns-then-is_next-clause-right g c known right =
    let old = c.args.self.now in
    let new = c.match-next_by.self in
    let both : IsKnown new × IsSameGame old new = elim c.match-next_by.branch [
      | in-Some w ↦
          let cell = w.in-Some.cell in
          let same = w.make_room.ensures.same in
          let count = w.make_room.ensures.count in
          let later = w.push.ensures.same in
          let is = w.in-Some.ensures.value known right in
          let common : is_rare old.rare.mask old.count cell ≡ false = ap (is_rare old.rare.mask old.count) is ∙ (w.in-Some.ensures.settled known right).common in
          subst (λ s. IsKnown s × IsSameGame old s) (sym w.self-is) (
            w.push.ensures.known (w.make_room.ensures.known known) (is ∙ ap₂ nim_value (sym same.code) (sym count))
                (subst₂ (λ mask n. is_rare mask n cell ≡ false) (sym same.mask) (sym count) common),
            record { code = later.code ∙ same.code; mask = later.mask ∙ same.mask; reach = later.reach ∙ same.reach },
          )
      | in-None w ↦ subst (λ s. IsKnown s × IsSameGame old s) (sym w.self-is) (w.push_next-is_next.ensures.known known, w.push_next-is_next.ensures.same)
    ] in
    c.follow.ensures.right both.0 (if_some c.args.sets.now (AreRight old) (AreRight new) (λ s are. same_game old new s both.1 are) right)
