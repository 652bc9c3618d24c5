use Rattle.std.proofs.Common.{◌-◌, ◌∙◌, ap, arith, length, drop, map, subst, sym, take, IfSome}
use Rattle.oct_mex.specs.Windows.{IsSettled}
use Rattle.oct_mex.specs.NimValues.{nim_value}
use Rattle.oct_sets.specs.Plans.{AreLast, IsParted}
use Rattle.oct_window.specs.BySets.{AreRight, AreSetsOf}
use Rattle.oct_window.proofs.Sets.{last_of, parted}
use Rattle.oct_window.proofs.window.Window.next_by.Goals as goal

pub returns-then-value-self-clause-value : goal.returns-then-value-self-clause-value
returns-then-value-self-clause-value g c known right =
    let w = c.args.self.now in
    let s = c.in-Some.sets in
    let are : AreRight w s = subst (λ o. IfSome o (AreRight w)) c.in-Some.is right in
    let of : AreSetsOf w s = subst (λ o. IfSome o (AreSetsOf w)) c.in-Some.is c.requires.of in
    let k = c.len.result - w.reach - c.len-2.result in
    let room = c.requires.shaped.room in
    let last = last_of w.code w.reach w.count w.held.items known.held c.deref.result.now k (length c.deref.result.now - k) c.deref.ensures.value
    (omega (arith, c.len.ensures, c.len-2.ensures.value, room)) (omega (arith, c.len.ensures, c.len-2.ensures.value, room, c.deref.ensures.len)) in
    c.in_ok-value.ensures.value w.code are.heaps w.reach are.right (subst (λ n. AreLast w.code n (map (λ x. x) (take (length c.deref.result.now - k) (drop k c.deref.result.now)))) (sym of.heap) last)
    (subst (λ n. IsParted w.code w.rare.mask are.heaps w.reach n) (sym of.heap) (parted w s known are))
    ∙ ap (nim_value w.code) of.heap

pub returns-then-value-self-clause-settled : goal.returns-then-value-self-clause-settled
returns-then-value-self-clause-settled g c known right =
    let w = c.args.self.now in
    let s = c.in-Some.sets in
    let are : AreRight w s = subst (λ o. IfSome o (AreRight w)) c.in-Some.is right in
    let of : AreSetsOf w s = subst (λ o. IfSome o (AreSetsOf w)) c.in-Some.is c.requires.of in
    let k = c.len.result - w.reach - c.len-2.result in
    let room = c.requires.shaped.room in
    let last = last_of w.code w.reach w.count w.held.items known.held c.deref.result.now k (length c.deref.result.now - k) c.deref.ensures.value
    (omega (arith, c.len.ensures, c.len-2.ensures.value, room)) (omega (arith, c.len.ensures, c.len-2.ensures.value, room, c.deref.ensures.len)) in
    subst (IsSettled w.code w.rare.mask w.reach) of.heap
    (c.in_ok-value.ensures.settled w.code are.heaps w.reach are.right (subst (λ n. AreLast w.code n (map (λ x. x) (take (length c.deref.result.now - k) (drop k c.deref.result.now)))) (sym of.heap) last)
    (subst (λ n. IsParted w.code w.rare.mask are.heaps w.reach n) (sym of.heap) (parted w s known are)))
