use Rattle.std.proofs.Common.{ap, map}
use Rattle.std.proofs.lemmas.List.{drop_all}
use Rattle.oct_ops.proofs.Growing.{extends_trans}
use Rattle.oct_pages.proofs.Lines.{rows_next}
use Rattle.oct_pages.proofs.Pagers.{all_shown}
use Rattle.oct_pages.proofs.line.show_each.Goals as goal

pub loop-line-preserved : goal.loop-line-preserved
loop-line-preserved g c = record {
  shown = rows_next g.L.Line.spelled _ _ _ _ _ _ _ _ _ c.line-item.result c.loop-line-test.true c.line-item.is c.loop-line.invariant.shown c.in_ok-show.ensures.ok;
  grown = extends_trans _ _ _ c.loop-line.invariant.grown c.show.ensures.grown;
}

pub returns-clause-ok : goal.returns-clause-ok
returns-clause-ok g c =
    all_shown _ _ _ _ (map g.L.Line.spelled c.args.lines.now) _ (ap (map g.L.Line.spelled) (drop_all c.loop-line.line-index c.args.lines.now c.loop-line-test.false)) c.loop-line.invariant.shown
