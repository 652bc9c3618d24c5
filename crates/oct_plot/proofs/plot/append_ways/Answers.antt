use Rattle.std.proofs.Common.{◌+◌, ◌++◌, drop, get_or, sym, ap, ◌∙◌, append_assoc}
use Rattle.std.specs.Prelude.{Some}
use Rattle.std.proofs.lemmas.List.{append-nil, drop_all, drop_more}
use Rattle.oct_ops.proofs.Growing.{extends_trans}
use Rattle.oct_plot.specs.Plot.{way_text, ways_text}
use Rattle.oct_plot.proofs.plot.append_ways.Goals as goal

pub loop-point-preserved : goal.loop-point-preserved
loop-point-preserved g c =
    let all = c.args.points.now in
    let i = c.loop-point.point-index in
    let here = get_or all i (record { row = 0; column = 0 }) in
    let out = c.loop-point.out.items in
    let before = c.loop-point.before in
    let rest = ways_text (Some here) (drop (i + 1) all) in
    record {
      rest = ap (λ t. t ++ rest) c.in_ok-append_way.ensures.ok ∙ append_assoc out (way_text before here) rest
          ∙ ap (λ ps. out ++ ways_text before ps) (sym (drop_more all i _ c.loop-point-test.true)) ∙ c.loop-point.invariant.rest;
      grown = extends_trans _ _ _ c.loop-point.invariant.grown c.in_ok-append_way.ensures.grown;
    }

pub returns-clause-ok : goal.returns-clause-ok
returns-clause-ok g c =
    sym (append-nil c.loop-point.out.items) ∙ ap (λ ps. c.loop-point.out.items ++ ways_text c.loop-point.before ps) (sym (drop_all c.loop-point.point-index c.args.points.now c.loop-point-test.false)) ∙ c.loop-point.invariant.rest
