use Rattle.std.proofs.Common.{◌≡◌, ◌+◌, ◌-◌, ◌<◌, ◌≤◌, ℕ, arith, length, slice_index, subst₂, vec_len}
use Rattle.oct_mex.specs.Windows.{window}
use Rattle.oct_window.proofs.Held.{held_less, beside_less, rare_less, table_less}
use Rattle.oct_window.proofs.window.Window.forget.Goals as goal

pub returns-clause-shaped : goal.returns-clause-shaped
returns-clause-shaped g c =
    let w = c.args.self.now in
    let s = c.requires in
    let kept = c.keep_ends.ensures in
    let less = c.keep_ends.new.list.items in
    let size : length less ≡ w.reach + 1 + window w.code w.reach = omega arith in
    let fits : w.reach + 1 ≤ length w.held.items = omega arith in
    let longer : w.reach + 1 ≤ length less = omega arith in
    let last : (i : ℕ) → i < window w.code w.reach → slice_index less (w.reach + 1 + i) ≡ slice_index w.held.items (length w.held.items - window w.code w.reach + i) =
    subst₂ (λ n k. (i : ℕ) → i < w.reach + k → slice_index less (w.reach + 1 + i) ≡ slice_index w.held.items (n - (w.reach + k) + i)) (let same : vec_len w.held ≡ length w.held.items = omega arith in same) c.len.ensures.value kept.last in
    record {
      some = s.some;
      near = s.near;
      small = s.small;
      room = omega arith;
      spare = omega arith;
      beside = beside_less w.held.items less (w.reach + 1) fits longer kept.first w.rare.heaps.items w.rare.values.items (λ h listed. omega (arith, s.few h listed)) s.beside;
      few = s.few;
      table = table_less w.held.items less (w.reach + 1) fits longer kept.first (length w.held.items - window w.code w.reach) w.used (λ i low. last i (omega arith)) (omega arith) s.table;
      used = s.used;
    }

pub returns-clause-known : goal.returns-clause-known
returns-clause-known g c known =
    let w = c.args.self.now in
    let s = c.requires in
    let kept = c.keep_ends.ensures in
    let less = c.keep_ends.new.list.items in
    let fits : w.reach + 1 ≤ length w.held.items = omega arith in
    let longer : w.reach + 1 ≤ length less = omega arith in
    let last : (i : ℕ) → i < window w.code w.reach → slice_index less (w.reach + 1 + i) ≡ slice_index w.held.items (length w.held.items - window w.code w.reach + i) =
    subst₂ (λ n k. (i : ℕ) → i < w.reach + k → slice_index less (w.reach + 1 + i) ≡ slice_index w.held.items (n - (w.reach + k) + i)) (let same : vec_len w.held ≡ length w.held.items = omega arith in same) c.len.ensures.value kept.last in
    record {
      fit = known.fit;
      held = held_less w.code w.reach w.count w.held.items less known.held (omega arith) kept.first last;
      rare = rare_less w.held.items less (w.reach + 1) fits longer kept.first w.rare.mask w.rare.heaps.items known.rare;
      common = known.common;
    }
