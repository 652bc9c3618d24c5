use Rattle.std.proofs.Common.{ap, map, subst, ◌∙◌}
use Rattle.std.proofs.lemmas.Result.{on_ok_weaker}
use Rattle.std.proofs.lemmas.Simd.{map-map}
use Rattle.oct_ops.specs.Operations.{listed}
use Rattle.oct_store.specs.Summary.{through, last, authors}
use Rattle.oct_store.specs.declared.author.Author.{Author}
use Rattle.oct_pages.specs.Catalogue.{author_text}
use Rattle.oct_pages.specs.Pager.{AreShown}
use Rattle.oct_pages.proofs.authors.append_authors.Goals as goal

pub returns-clause-ok : goal.returns-clause-ok
returns-clause-ok g c =
    let line = λ (r : Author). author_text r.author r.through r.last in
    on_ok_weaker c.show_each.result (subst (AreShown _ _ _ _)
    (ap (map line) (c.deref.ensures.value ∙ c.in_ok-authors.ensures)
    ∙ map-map line (λ a. record { author = a; through = through (listed c.args.store.now) a; last = last (listed c.args.store.now) a }) (authors (listed c.args.store.now)))) c.show_each.ensures.ok
