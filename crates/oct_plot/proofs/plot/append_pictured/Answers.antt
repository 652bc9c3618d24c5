use Rattle.std.proofs.Common.{◌++◌, ap, ◌∙◌}
use Rattle.std.proofs.lemmas.Result.{on_ok_weaker}
use Rattle.oct_plot.specs.Plot.{plot_with}
use Rattle.oct_plot.proofs.plot.append_pictured.Goals as goal

pub returns-clause-ok : goal.returns-clause-ok
returns-clause-ok g c =
    on_ok_weaker c.append_plot.result
    (λ same. same ∙ ap (λ shown. c.args.out.now.items ++ plot_with c.args.style.now c.args.code.now shown c.args.proved.now) c.pictured.ensures)
    c.append_plot.ensures.ok
