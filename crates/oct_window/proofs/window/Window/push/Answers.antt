use Rattle.std.proofs.Common.{◌≡◌, ◌+◌, ◌*◌, ◌++◌, ◌∷◌, [], arith, sym, subst}
use Rattle.oct_mex.proofs.Listed.{AreBeside-push}
use Rattle.oct_mex.proofs.Marking.{table_grows, table_stays}
use Rattle.oct_mex.specs.Marks.{IsTableFor}
use Rattle.oct_mex.specs.Rare.{AreBeside, ListsRare}
use Rattle.oct_mex.specs.Windows.{IsHeld}
use Rattle.oct_window.proofs.Held.{common_more, held_more, rare_more, twice_small}
use Rattle.oct_window.proofs.window.Window.push.Goals as goal

pub returns-then-from-self-clause-shaped : goal.returns-then-from-self-clause-shaped
returns-then-from-self-clause-shaped g c =
    let w = c.args.self.now in
    let s = c.requires.shaped in
    let cell = c.args.cell in
    let more : c.push_reserved.new.self.items ≡ w.held.items ++ cell ∷ [] = c.push_reserved.ensures.items in
    record {
      some = s.some;
      near = s.near;
      small = s.small;
      room = omega (arith, c.push_reserved.ensures.len);
      spare = omega (arith, c.push_reserved.ensures.capacity);
      beside = subst (λ xs. AreBeside xs w.rare.heaps.items w.rare.values.items) (sym more) (AreBeside-push w.held.items w.rare.heaps.items w.rare.values.items cell s.beside);
      few = s.few;
      table = subst (λ xs. IsTableFor xs (w.used * 2)) (sym more) (table_grows w.held.items w.used cell s.table (omega arith));
      used = twice_small s.table.bits w.used s.table.power (omega arith);
    }

pub returns-else-from-self-clause-shaped : goal.returns-else-from-self-clause-shaped
returns-else-from-self-clause-shaped g c =
    let w = c.args.self.now in
    let s = c.requires.shaped in
    let cell = c.args.cell in
    let more : c.push_reserved.new.self.items ≡ w.held.items ++ cell ∷ [] = c.push_reserved.ensures.items in
    record {
      some = s.some;
      near = s.near;
      small = s.small;
      room = omega (arith, c.push_reserved.ensures.len);
      spare = omega (arith, c.push_reserved.ensures.capacity);
      beside = subst (λ xs. AreBeside xs w.rare.heaps.items w.rare.values.items) (sym more) (AreBeside-push w.held.items w.rare.heaps.items w.rare.values.items cell s.beside);
      few = s.few;
      table = subst (λ xs. IsTableFor xs w.used) (sym more) (table_stays w.held.items w.used cell s.table (omega (arith, c.if-from-self.false, c.from.ensures)));
      used = s.used;
    }

pub returns-then-from-self-clause-known : goal.returns-then-from-self-clause-known
returns-then-from-self-clause-known g c known is not_rare =
    let w = c.args.self.now in
    let cell = c.args.cell in
    let more : c.push_reserved.new.self.items ≡ w.held.items ++ cell ∷ [] = c.push_reserved.ensures.items in
    record {
      fit = known.fit;
      held = subst (IsHeld w.code w.reach (w.count + 1)) (sym more) (held_more w.code w.reach w.count cell w.held.items known.held is);
      rare = subst (λ xs. ListsRare w.rare.mask xs (w.reach + 1) w.rare.heaps.items) (sym more) (rare_more w.rare.mask w.reach w.held.items cell w.rare.heaps.items (omega arith) known.rare);
      common = common_more w.code w.rare.mask w.reach w.count cell known.common is not_rare;
    }

pub returns-else-from-self-clause-known : goal.returns-else-from-self-clause-known
returns-else-from-self-clause-known g c known is not_rare =
    let w = c.args.self.now in
    let cell = c.args.cell in
    let more : c.push_reserved.new.self.items ≡ w.held.items ++ cell ∷ [] = c.push_reserved.ensures.items in
    record {
      fit = known.fit;
      held = subst (IsHeld w.code w.reach (w.count + 1)) (sym more) (held_more w.code w.reach w.count cell w.held.items known.held is);
      rare = subst (λ xs. ListsRare w.rare.mask xs (w.reach + 1) w.rare.heaps.items) (sym more) (rare_more w.rare.mask w.reach w.held.items cell w.rare.heaps.items (omega arith) known.rare);
      common = common_more w.code w.rare.mask w.reach w.count cell known.common is not_rare;
    }
