use Rattle.std.proofs.Common.{◌≡◌, ◌+◌, ◌/◌, ◌<◌, ◌≤◌, ℕ, List, length, map, refl, sym, subst, subst₂, ap, ◌∙◌, arith}
use Rattle.std.proofs.lemmas.List.{map-id}
use Rattle.std.specs.List.{Contains}
use Rattle.oct_mex.specs.Marks.{IsTableFor}
use Rattle.oct_mex.specs.NimValues.{nim_values}
use Rattle.oct_mex.specs.Rare.{AreBeside, IsFit, ListsRare}
use Rattle.oct_mex.specs.Windows.{window}
use Rattle.oct_mex.specs.declared.mask.Mask.{Mask}
use Rattle.oct_mex.proofs.NimValues.{nim_values-length}
use Rattle.oct_window.proofs.Begun.{common_first, held_first, rare_first}
use Rattle.oct_window.proofs.window.Window.of.Goals as goal

pub returns : goal.returns
returns g c =
    let row = c.args.row.now in
    let code = c.args.code in
    let kept = c.requires in
    let copy = c.in_ok-copy_of.field-0 in
    let held = c.in_ok-with_room.field-0.items in
    let reach = c.saturating_sub-reach.result / 2 in
    let n = c.len-count.result in
    let cells = row.values.items in
    let whole : map (λ x. x) cells ≡ cells = map-id cells in
    let held_is : held ≡ cells = c.in_ok-with_room.ensures.items ∙ c.deref-2.ensures.value in
    let are : held ≡ nim_values code n = held_is ∙ sym whole ∙ kept.values ∙ ap (nim_values code) (sym c.len-count.ensures) in
    let size : length held ≡ n = ap length are ∙ nim_values-length code n in
    let fits : reach + window code reach < n = omega (arith, c.if-reach-eq0.false, c.saturating_sub-reach.ensures, c.len.ensures.value) in
    let same = c.in_ok-copy_of.ensures in
    let listed : ListsRare copy.mask held n copy.heaps.items =
    subst₂ (λ mask heaps. ListsRare mask held n heaps) (sym same.mask) (sym same.heaps)
    (subst₂ (λ xs k. ListsRare row.rare.mask xs k row.rare.heaps.items) (whole ∙ sym held_is) (sym c.len-count.ensures) kept.listed.rare) in
    let few : (h : ℕ) → Contains copy.heaps.items h → h ≤ reach = λ h is. omega (arith, c.greatest.ensures.most h (subst (λ (xs : List ℕ). Contains xs h) (same.heaps ∙ sym c.deref.ensures.value) is), c.if-reach-greatest.false) in
    let some : 0 < copy.mask.bits = omega (arith, ap (λ (m : Mask). m.bits) same.mask, c.if-row-eq0.false) in
    record {
      shaped = record {
        some = some;
        near = omega (arith, c.if-reach-eq0.false);
        small = omega (arith, kept.limited);
        room = omega arith;
        spare = omega (arith, c.if-reach-eq0.false, c.saturating_sub-reach.ensures, c.len.ensures.value);
        beside = subst₂ (λ (xs heaps : List ℕ). AreBeside xs heaps copy.values.items) (whole ∙ sym held_is) (sym same.heaps)
            (subst (λ (xs : List ℕ). AreBeside (map (λ x. x) cells) row.rare.heaps.items xs) (map-id row.rare.values.items ∙ sym same.values) kept.listed.beside);
        few = few;
        table = subst (λ (xs : List ℕ). IsTableFor xs row.used) (whole ∙ sym held_is) kept.used;
        used = c.if-row-gt-MARKS.false;
      };
      known = record {
        fit = subst (IsFit code) (sym same.mask) kept.fit;
        held = held_first code reach n held are fits;
        rare = rare_first copy.mask held copy.heaps.items n (reach + 1) (omega arith) listed;
        common = common_first code copy.mask reach n held copy.heaps.items are some listed few;
      };
      code = refl;
      count = c.len-count.ensures;
      reach = omega (arith, c.saturating_sub-reach.ensures, c.len.ensures.value, c.len-count.ensures);
    }
