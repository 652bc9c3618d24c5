use Rattle.std.proofs.Common.{arith, ◌≡◌, suc, ◌+◌, ◌-◌, [], ◌∷◌, map, length, ap}
use Rattle.std.specs.Int.{div_ceil}
use Rattle.std.specs.List.{range_with_len}
use Rattle.oct_pages.specs.Catalogue.{values_line, values_lines, values_per_line}
use Rattle.oct_ops.proofs.Growing.{extends_same, extends_trans}
use Rattle.oct_pages.proofs.Pagers.{all_shown, showing, showing_next}
use Rattle.oct_pages.proofs.values.append_values.Goals as goal

pub loop-line-init : goal.loop-line-init
loop-line-init g c =
    let count = div_ceil (length c.args.values.now) values_per_line in
    let all : count - 0 ≡ count = omega arith in
    record {
      shown = showing _ _ _ _ (ap (λ n. map (values_line c.args.values.now) (range_with_len 0 n)) all);
      grown = extends_same c.args.out.now.items;
    }

pub loop-line-preserved : goal.loop-line-preserved
loop-line-preserved g c =
    let all = values_line c.args.values.now in
    let count = div_ceil (length c.args.values.now) values_per_line in
    let one : count - c.loop-line.line ≡ suc (count - (c.loop-line.line + 1)) = omega (arith, c.loop-line-test.true) in
    record {
      shown = showing_next _ _ _ _ _ _ (values_lines c.args.values.now) _ (all c.loop-line.line ∷ []) (map all (range_with_len (c.loop-line.line + 1) (count - (c.loop-line.line + 1))))
          (ap (λ n. map all (range_with_len c.loop-line.line n)) one) c.loop-line.invariant.shown c.in_ok-show_values.ensures.ok;
      grown = extends_trans _ _ _ c.loop-line.invariant.grown c.in_ok-show_values.ensures.grown;
    }

pub returns-clause-ok : goal.returns-clause-ok
returns-clause-ok g c =
    let count = div_ceil (length c.args.values.now) values_per_line in
    let none : count - c.loop-line.line ≡ 0 = omega (arith, c.loop-line-test.false) in
    all_shown _ _ _ _ _ _ (ap (λ n. map (values_line c.args.values.now) (range_with_len c.loop-line.line n)) none) c.loop-line.invariant.shown
