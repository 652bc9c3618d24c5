use Rattle.std.proofs.Common.{◌≡◌, ◌-◌, ◌+◌, ℕ, List, length, arith, take, subst, subst₂}
use Rattle.std.proofs.lemmas.List.{length-take-le}
use Rattle.std.specs.List.{Contains}
use Rattle.oct_sets.specs.Sets.{IsRight}
use Rattle.oct_window.specs.BySets.{AreRight}
use Rattle.oct_window.proofs.Sets.{first_of, last_of, listed_of, ok_some}
use Rattle.oct_window.proofs.window.Window.sets.Goals as goal

pub new-requires-clause-listed : goal.new-requires-clause-listed
new-requires-clause-listed g c h is =
    let w = c.args.self.now in
    let few = c.requires.few h (subst (λ (xs : List ℕ). Contains xs h) c.deref-2.ensures.value is) in
    omega (arith, few, length-take-le (w.reach + 1) c.deref.result.now (omega (arith, c.deref.ensures.value, c.deref.ensures.len, c.requires.room)))

pub returns-clause-right : goal.returns-clause-right
returns-clause-right g c known =
    let w = c.args.self.now in
    let k = c.len-2.result - (w.reach + c.len.result) in
    let rare = c.deref-2.result.now in
    let small = take (w.reach + 1) c.deref.result.now in
    let size : length small - 1 ≡ w.reach =
    (let long = length-take-le (w.reach + 1) c.deref.result.now (omega (arith, c.deref.ensures.value, c.deref.ensures.len, c.requires.room)) in omega (arith, long)) in
    ok_some c.new.result c.ok.result (IsRight w.code rare (length small - 1)) (AreRight w) c.ok.ensures.value
    (λ s right. record {
      heaps = w.rare.heaps.items;
      right = subst₂ (λ heaps reach. IsRight w.code heaps reach s) c.deref-2.ensures.value size right;
      listed = listed_of w.code w.rare.mask w.reach w.count w.held.items w.rare.heaps.items c.requires.some known.held known.rare;
    })
    (c.new.ensures.right (first_of w.code w.reach w.count w.held.items known.held c.deref.result.now c.deref.ensures.value)
    (last_of w.code w.reach w.count w.held.items known.held c.deref-3.result.now k (length c.deref-3.result.now - k) c.deref-3.ensures.value
    (omega (arith, c.len-2.ensures, c.len.ensures.value, c.requires.room)) (omega (arith, c.len-2.ensures, c.len.ensures.value, c.requires.room, c.deref-3.ensures.len))))
