use Rattle.std.proofs.Common.{ap, map, subst, ◌∙◌}
use Rattle.std.proofs.lemmas.Result.{on_ok_weaker}
use Rattle.std.proofs.lemmas.Simd.{map-map}
use Rattle.oct_ops.specs.Operations.{listed}
use Rattle.oct_store.specs.Summary.{contents, forks}
use Rattle.oct_store.specs.declared.fork.Fork.{Fork}
use Rattle.oct_pages.specs.Catalogue.{fork_text}
use Rattle.oct_pages.specs.Pager.{AreShown}
use Rattle.oct_pages.proofs.authors.append_forks.Goals as goal

pub returns-clause-ok : goal.returns-clause-ok
returns-clause-ok g c =
    let line = λ (r : Fork). fork_text r.dot r.contents in
    on_ok_weaker c.show_each.result (subst (AreShown _ _ _ _)
    (ap (map line) (c.deref.ensures.value ∙ c.in_ok-forks.ensures)
    ∙ map-map line (λ d. record { dot = d; contents = contents (listed c.args.store.now) d }) (forks (listed c.args.store.now)))) c.show_each.ensures.ok
