use Rattle.std.proofs.Common.{◌++◌, Ok, sym, ap, ◌∙◌}
use Rattle.std.proofs.lemmas.Result.{err_from_is_err_and}
use Rattle.oct_ops.specs.Operations.{Operations, listed}
use Rattle.oct_pages.specs.Catalogue.{catalogue}
use Rattle.census_state.proofs.Stepping.{stopped, then_with}
use Rattle.page.proofs.files.catalogue.Goals as goal

pub returns-in_err-held-clause-err : goal.returns-in_err-held-clause-err
returns-in_err-held-clause-err g c =
    let p = err_from_is_err_and c.from_residual.result c.from_residual.ensures.1 in
    rw (p.1, p.2) (λ other. stopped _ _ _ (c.in_err-held.ensures.err other))

pub returns-clause-ok : goal.returns-clause-ok
returns-clause-ok g c =
    then_with _ _ c.in_ok-held.held c.in_ok-held.ensures.ok
    ∙ ap Ok (sym (c.in_ok-write_catalogue_of.ensures.ok ∙ ap (λ front. front ++ catalogue (listed c.as_record.result.now.ops)) c.new-text.ensures.items ∙ ap (λ (ops : Operations). catalogue (listed ops)) c.as_record.ensures))
