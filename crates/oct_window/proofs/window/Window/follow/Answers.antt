use Rattle.std.proofs.Common.{◌-◌, length, map, arith, drop, subst, sym, take, IfSome}
use Rattle.oct_sets.specs.Plans.{AreLast}
use Rattle.oct_window.specs.BySets.{AreRight, IsBehind}
use Rattle.oct_window.proofs.Sets.{last_of}
use Rattle.oct_window.proofs.window.Window.follow.Goals as goal

pub returns-in-Some-clause-right : goal.returns-in-Some-clause-right
returns-in-Some-clause-right g c known right =
    let w = c.args.self.now in
    let s = c.in-Some.sets in
    let are : AreRight w s = subst (λ o. IfSome o (AreRight w)) c.in-Some.is right in
    let behind : IsBehind w s = subst (λ o. IfSome o (IsBehind w)) c.in-Some.is c.requires.of in
    let k = c.len.result - w.reach - c.len-in-Some.result in
    let room = c.requires.shaped.room in
    let last = last_of w.code w.reach w.count w.held.items known.held c.deref.result.now k (length c.deref.result.now - k) c.deref.ensures.value
    (omega (arith, c.len.ensures, c.len-in-Some.ensures.value, room)) (omega (arith, c.len.ensures, c.len-in-Some.ensures.value, room, c.deref.ensures.len)) in
    record {
      heaps = are.heaps;
      right = c.push.ensures.right w.code are.heaps w.reach are.right (subst (λ n. AreLast w.code n (map (λ x. x) (take (length c.deref.result.now - k) (drop k c.deref.result.now)))) (sym behind.heap) last);
      listed = are.listed;
    }
