use Rattle.std.proofs.Common.{◌≡◌, ◌∙◌, ◌<◌, ap, sym, subst, subst₂, length, List, ℕ, arith}
use Rattle.std.specs.List.{Contains}
use Rattle.oct_mex.specs.Marks.{IsTableFor}
use Rattle.oct_mex.specs.Rare.{AreBeside}
use Rattle.oct_mex.specs.declared.mask.Mask.{Mask}
use Rattle.oct_window.proofs.window.Window.copy.Goals as goal

pub returns-clause-shaped : goal.returns-clause-shaped
returns-clause-shaped g c =
    let w = c.args.self.now in
    let s = c.requires.shaped in
    let held = c.reserve_exact.new.self in
    let copy = c.in_ok-copy_of.field-0 in
    let told = c.in_ok-copy_of.ensures in
    let same : held.items ≡ w.held.items = c.reserve_exact.ensures.items ∙ c.in_ok-held.ensures.items ∙ c.deref.ensures.value in
    let size : length held.items ≡ length w.held.items = ap length same in
    record {
      some = subst (λ (m : Mask). 0 < m.bits) (sym told.mask) s.some;
      near = s.near;
      small = s.small;
      room = omega (arith, s.room);
      spare = omega (arith, s.room, c.in_ok-reserve_exact.ensures.ok, c.requires.room);
      beside = subst₂ (λ (xs heaps : List ℕ). AreBeside xs heaps copy.values.items) (sym same) (sym told.heaps) (subst (λ (xs : List ℕ). AreBeside w.held.items w.rare.heaps.items xs) (sym told.values) s.beside);
      few = λ h is. s.few h (subst (λ (xs : List ℕ). Contains xs h) told.heaps is);
      table = subst (λ (xs : List ℕ). IsTableFor xs w.used) (sym same) s.table;
      used = s.used;
    }
