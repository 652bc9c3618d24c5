use Rattle.std.proofs.Common.{◌≡◌, ℕ, ◌≤◌, List, length, refl, sym, ◌∙◌, ap, subst, subst₂, arith}
use Rattle.std.proofs.lemmas.List.{map-id}
use Rattle.std.proofs.lemmas.Result.{err_from_is_err_and}
use Rattle.std.specs.List.{All, Contains}
use Rattle.std.specs.Vec.{vec_len}
use Rattle.oct_mex.specs.Marks.{IsTableFor}
use Rattle.oct_mex.specs.Rare.{AreBeside}
use Rattle.oct_mex.specs.declared.mask.Mask.{Mask}
use Rattle.oct_saved.proofs.Fronts.{all_contained, contained_all, refuses_more}
use Rattle.oct_saved.proofs.parts.window_of.Goals as goal

pub returns-in_err-rare-clause-err : goal.returns-in_err-rare-clause-err
returns-in_err-rare-clause-err g c =
    let p = err_from_is_err_and c.from_residual-in_err-rare.result c.from_residual-in_err-rare.ensures.1 in
    let reach = c.args.scalars.reach in
    rw (p.1, p.2) (refuses_more c.in_err-rare.field-0.0 _ _ (λ (w, is).
    subst₂ (λ (r : ℕ) (xs : List ℕ). All (λ h. h ≤ r) xs) is.reach is.heaps (all_contained (λ h. h ≤ w.reach) w.rare.heaps.items is.shaped.few)) c.in_err-rare.ensures.err)

pub returns-clause-ok : goal.returns-clause-ok
returns-clause-ok g c =
    let scalars = c.args.scalars in
    let held = c.in_ok-held.held in
    let rare = c.in_ok-rare.rare in
    let values : held.items ≡ c.args.held.now = sym (map-id held.items) ∙ c.in_ok-held.ensures.items in
    let size : vec_len held ≡ length c.args.held.now = held.ok.0 ∙ ap length values in
    let mask : rare.mask ≡ scalars.mask = c.in_ok-rare.ensures.mask in
    let heaps : rare.heaps.items ≡ c.args.heaps.now = c.in_ok-rare.ensures.heaps in
    record {
      shaped = record {
        some = omega (arith, ap (λ (m : Mask). m.bits) mask, c.if-scalars-eq0.false);
        near = omega (arith, c.if-reach-eq0.false);
        small = omega (arith, c.if-reach.false);
        room = omega (arith, c.if-held-reach.false, c.len.ensures.value, size);
        spare = omega (arith, c.if-held-reach.false, c.if-reach-eq0.false, c.len.ensures.value, c.in_ok-held.ensures.room);
        beside = subst₂ (λ (xs hs : List ℕ). AreBeside xs hs rare.values.items) c.deref.ensures.value (sym heaps) c.in_ok-rare.ensures.beside;
        few = subst (λ (xs : List ℕ). (h : ℕ) → Contains xs h → h ≤ scalars.reach) (sym heaps) (contained_all (λ h. h ≤ scalars.reach) c.args.heaps.now c.in_ok-rare.ensures.few);
        table = subst (λ (xs : List ℕ). IsTableFor xs c.used_for-used.result) c.deref-2.ensures.value c.used_for-used.ensures.table;
        used = c.used_for-used.ensures.most;
      };
      code = refl;
      reach = refl;
      count = refl;
      mask = mask;
      heaps = heaps;
      held = values;
    }
