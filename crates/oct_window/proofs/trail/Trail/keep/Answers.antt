use Rattle.std.proofs.Common.{◌+◌, ◌<◌, ◌∙◌, ◌++◌, ◌∷◌, [], ap, arith, subst, subst₂, sym}
use Rattle.oct_mex.specs.Windows.{window as width}
use Rattle.oct_window.specs.Trails.{IsPassed, IsRightlyPassed}
use Rattle.oct_window.proofs.Trails.{all_more}
use Rattle.oct_window.proofs.trail.Trail.keep.Goals as goal

pub returns-clause-of : goal.returns-clause-of
returns-clause-of g c listed behind trail =
    let copy = c.in_ok-copy.field-0 in
    let told = c.in_ok-copy.ensures in
    all_more (IsPassed listed c.args.window.now) c.args.self.now.windows.items c.push_reserved.new.self.items copy
    (c.push_reserved.ensures.items ∙ ap (λ xs. xs ++ copy ∷ []) c.reserve.ensures.items) trail (record {
      shaped = told.shaped;
      same = told.same;
      far = subst (λ n. copy.reach + width copy.code copy.reach < n) (sym told.count) (subst₂ (λ k r. r + width k r < c.args.window.now.count) (sym told.same.code) (sym told.same.reach) c.requires.far);
      behind = omega (arith, told.count);
      passed = omega (arith, told.count);
    })

pub returns-clause-right : goal.returns-clause-right
returns-clause-right g c known trail =
    let copy = c.in_ok-copy.field-0 in
    let told = c.in_ok-copy.ensures in
    all_more (IsRightlyPassed c.args.window.now) c.args.self.now.windows.items c.push_reserved.new.self.items copy
    (c.push_reserved.ensures.items ∙ ap (λ xs. xs ++ copy ∷ []) c.reserve.ensures.items) trail (record {
      known = told.known known;
      settled = λ n high low. absurd (omega (arith, told.count));
    })
