use Rattle.std.proofs.Common.{◌≡◌, ◌∙◌, false, ap, ap₂, subst₂, sym}
use Rattle.oct_mex.specs.NimValues.{nim_value}
use Rattle.oct_mex.specs.Rare.{is_rare}
use Rattle.oct_window.proofs.window.Window.push_next.Goals as goal

pub returns-clause-known : goal.returns-clause-known
returns-clause-known g c known =
    let w = c.args.self.now in
    let same = c.make_room.ensures.same in
    let count = c.make_room.ensures.count in
    let is = c.in-Some.ensures.value known in
    let common : is_rare w.rare.mask w.count c.in-Some.cell ≡ false = ap (is_rare w.rare.mask w.count) is ∙ (c.in-Some.ensures.settled known).common in
    c.push.ensures.known (c.make_room.ensures.known known) (is ∙ ap₂ nim_value (sym same.code) (sym count))
    (subst₂ (λ mask n. is_rare mask n c.in-Some.cell ≡ false) (sym same.mask) (sym count) common)
