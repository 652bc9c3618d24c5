use Rattle.std.proofs.Common.{◌≡◌, ◌-◌, ◌<◌, ℕ, List, length, ap, sym, ◌∙◌, subst, subst₂, refl, arith}
use Rattle.std.specs.List.{Contains}
use Rattle.oct_mex.specs.Windows.{window}
use Rattle.oct_sets.specs.Plans.{IsParted}
use Rattle.oct_sets.specs.Sets.{reach_of, IsRight, IsShaped}
use Rattle.oct_search.proofs.BySets.{parted_by}
use Rattle.oct_search.proofs.by_sets.BySets.behind.Goals as goal

pub new-requires-clause-listed : goal.new-requires-clause-listed
new-requires-clause-listed g c h is =
    let most = c.reach_of-reach.ensures.most h (subst (λ (heaps : List ℕ). Contains heaps h) c.deref.ensures.value is) in
    omega (arith, most, c.first_values-small.ensures.len)

pub returns-in-Ok : goal.returns-in-Ok
returns-in-Ok g c =
    let row = c.args.row.now in
    let code = c.args.code.now in
    let heap = c.args.heap in
    let reach = c.reach_of-reach.result in
    let is = c.in-Ok.ensures in
    let s = c.in-Ok.sets in
    let size : length c.first_values-small.result.now - 1 ≡ reach = omega (arith, c.first_values-small.ensures.len) in
    let reached : reach_of s ≡ reach = omega (arith, is.reach, size) in
    let right : IsRight code row.rare.heaps.items reach s =
    subst₂ (λ (heaps : List ℕ) k. IsRight code heaps k s) c.deref.ensures.value size (is.right c.first_values-small.ensures.first c.last_values-last.ensures.last) in
    let some : 0 < row.rare.mask.bits = omega (arith, c.if-row-eq0.false) in
    let parted : IsParted code row.rare.mask row.rare.heaps.items reach heap =
    parted_by g.T.Cell.number code row c.requires.row reach heap some (omega (arith, c.if-heap-reach.false)) c.requires.within c.reach_of-reach.ensures.most in
    record {
      right = record {
        some = some;
        near = omega (arith, reached, c.if-reach-eq0.false);
        shaped = subst₂ (λ k width. IsShaped k width s) (size ∙ sym reached) (c.last_values-last.ensures.len ∙ ap (window code) (sym reached)) is.shaped;
        heap = is.heap;
        heaps = row.rare.heaps.items;
        right = subst (λ k. IsRight code row.rare.heaps.items k s) (sym reached) right;
        parted = subst (λ k. IsParted code row.rare.mask row.rare.heaps.items k heap) (sym reached) parted;
      };
      mask = refl;
      wide = is.bound;
      most = λ h listed. omega (arith, c.reach_of-reach.ensures.most h listed, reached);
    }
