use Rattle.std.proofs.Common.{◌≡◌, ◌+◌, ◌-◌, ◌<◌, ap, arith, sym}
use Rattle.oct_mex.specs.Windows.{window as width}
use Rattle.oct_window.proofs.Trails.{again_from, differ_at, last_of_game}
use Rattle.oct_window.proofs.comparison.Comparison.behind.Goals as goal

pub returns-in_default-clause-compared : goal.returns-in_default-clause-compared
returns-in_default-clause-compared g c code right later here there =
    let v = c.args.first.window in
    let w = c.args.second.window in
    let heap = c.args.first.heap in
    let wide = width code v.reach in
    let first = last_of_game code v.code v.reach v.reach v.count heap c.last_values-last.result.now right.code (let e : v.reach ≡ v.reach = omega arith in e) here (c.last_values-last.ensures.values right.known) in
    let second = last_of_game code w.code v.reach w.reach w.count (heap + c.args.period) c.last_values.result.now later.code c.requires.same.reach there (c.last_values.ensures.values later.known) in
    let size : wide ≡ width v.code v.reach = ap (λ k. width k v.reach) (sym right.code) in
    again_from code wide heap c.args.period c.last_values-last.result.now c.last_values.result.now (omega (arith, size, c.requires.far)) first second 0 (heap - wide) (omega arith)
    (λ i high low. c.in_default.ensures.same i (omega (arith, size, c.last_values-last.ensures.len)))

pub returns-clause-compared : goal.returns-clause-compared
returns-clause-compared g c code right later here there =
    let v = c.args.first.window in
    let w = c.args.second.window in
    let heap = c.args.first.heap in
    let wide = width code v.reach in
    let at = c.in-Some.at in
    let first = last_of_game code v.code v.reach v.reach v.count heap c.last_values-last.result.now right.code (let e : v.reach ≡ v.reach = omega arith in e) here (c.last_values-last.ensures.values right.known) in
    let second = last_of_game code w.code v.reach w.reach w.count (heap + c.args.period) c.last_values.result.now later.code c.requires.same.reach there (c.last_values.ensures.values later.known) in
    let size : wide ≡ width v.code v.reach = ap (λ k. width k v.reach) (sym right.code) in
    let fits : wide < heap = omega (arith, size, c.requires.far) in
    let low : at < wide = omega (arith, size, c.in-Some.ensures.within, c.last_values-last.ensures.len) in
    record {
      first = right;
      second = later;
      again = again_from code wide heap c.args.period c.last_values-last.result.now c.last_values.result.now (omega arith) first second (at + 1)
          (heap - v.reach - c.len.result + at + 1) (omega (arith, size, c.len.ensures.value)) (λ i high near. c.in-Some.ensures.same i (omega arith) (omega (arith, size, c.last_values-last.ensures.len)));
      earliest = λ more. differ_at code wide heap c.args.period c.last_values-last.result.now c.last_values.result.now (omega arith) first second at
          (heap - v.reach - c.len.result + at + 1 - 1) (omega (arith, size, c.len.ensures.value)) low c.in-Some.ensures.differ;
    }
