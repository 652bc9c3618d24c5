use Rattle.std.proofs.Common.{◌++◌, ◌∙◌}
use Rattle.std.proofs.lemmas.Result.{on_ok_weaker}
use Rattle.oct_plot.specs.Plot.{plot_from}
use Rattle.oct_plot.proofs.plot.append_between.Goals as goal

pub returns-clause-ok : goal.returns-clause-ok
returns-clause-ok g c =
    on_ok_weaker c.append_from.result
    (λ same. same
    ∙ (λ i. c.args.out.now.items ++ plot_from c.args.style.now ((c.deref.ensures.value ∙ c.in_ok-told.ensures) i) c.args.code.now c.args.from (c.between.ensures.value i) c.args.proved.now))
    c.append_from.ensures.ok
