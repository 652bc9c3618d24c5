use Rattle.std.proofs.Common.{◌≡◌, ◌+◌, ap, refl, sym, ◌∙◌, subst, subst₂, arith, map}
use Rattle.oct_mex.specs.Windows.{window}
use Rattle.oct_sets.specs.Plans.{AreLast, IsParted}
use Rattle.oct_sets.specs.Sets.{heap_of, limit_of, reach_of, IsRight, IsShaped}
use Rattle.oct_sets.proofs.Forms.{least_is}
use Rattle.oct_search.proofs.BySets.{parted_more}
use Rattle.oct_search.proofs.by_sets.BySets.go_on.Goals as goal

pub push-requires-clause-some : goal.push-requires-clause-some
push-requires-clause-some g c = let near = c.requires.right.near in omega (arith, near, c.reach.ensures, c.last_values-last.ensures.len)

pub push-requires-clause-shaped : goal.push-requires-clause-shaped
push-requires-clause-shaped g c = subst (λ width. IsShaped (reach_of c.args.self.now.sets) width c.args.self.now.sets) (sym (c.last_values-last.ensures.len ∙ ap (window c.args.code.now) c.reach.ensures)) c.requires.right.shaped

pub last_values-last-requires-clause-within : goal.last_values-last-requires-clause-within
last_values-last-requires-clause-within g c =
    let is = c.requires.right in
    let least = least_is (reach_of c.args.self.now.sets) (window c.args.code.now (reach_of c.args.self.now.sets)) c.args.self.now.sets is.shaped in
    omega (arith, least, is.heap, c.reach.ensures)

pub push-requires-clause-low : goal.push-requires-clause-low
push-requires-clause-low g c = c.last_values-last.ensures.low (limit_of c.args.self.now.sets) c.requires.wide

pub returns : goal.returns
returns g c =
    let code = c.args.code.now in
    let old = c.args.self.now in
    let is = c.requires.right in
    let new = c.push.new.self in
    let reach : reach_of new ≡ reach_of old.sets = c.push.ensures.reach in
    let n = c.args.heap in
    let heap : heap_of old.sets + 1 ≡ n + 1 = omega (arith, is.heap) in
    record {
      right = record {
        some = is.some;
        near = omega (arith, reach, is.near);
        shaped = subst₂ (λ k width. IsShaped k width new) (sym reach) (c.last_values-last.ensures.len ∙ ap (window code) (c.reach.ensures ∙ sym reach)) c.push.ensures.shaped;
        heap = c.push.ensures.heap ∙ heap;
        heaps = is.heaps;
        right = subst (λ k. IsRight code is.heaps k new) (sym reach)
            (c.push.ensures.right code is.heaps (reach_of old.sets) is.right (subst (λ k. AreLast code k (map g.T.Cell.number c.last_values-last.result.now)) (sym heap) c.last_values-last.ensures.last));
        parted = subst (λ k. IsParted code old.mask is.heaps k (n + 1)) (sym reach) (parted_more code old.mask is.heaps (reach_of old.sets) n is.parted c.requires.common);
      };
      mask = refl;
      wide = c.push.ensures.limit;
      reach = reach;
    }
