use Rattle.std.proofs.Common.{Err, refl, sym, ap}
use Rattle.std.proofs.lemmas.Result.{IfErr-weaker, IfOk-weaker}
use Rattle.census_state.specs.declared.fault.Fault.TheVariants.{OutOfMemory}
use Rattle.page.specs.Answers.{IsCatalogue, catalogued}
use Rattle.page.proofs.HeldFiles.{left_told, none_told}
use Rattle.page.proofs.RightlyTold.{lacking_told, lacks, rightly_told}
use Rattle.page.proofs.catalogue.Goals as goal

pub returns-in_default-clause-told : goal.returns-in_default-clause-told
returns-in_default-clause-told c = lacking_told (IsCatalogue c.args.file.now) _ _ _ _ (lacks (catalogued c.args.file.now)) c.tell_no_memory.ensures

pub returns-in_default-clause-left_out : goal.returns-in_default-clause-left_out
returns-in_default-clause-left_out c = none_told c.args.file.now OutOfMemory c.tell_no_memory.result 0 c.tell_no_memory.ensures.number_is refl

pub returns-clause-told : goal.returns-clause-told
returns-clause-told c =
    rightly_told c.catalogue-answer.result (λ v. v.items) (IsCatalogue c.args.file.now) _ _ _ _
    (IfOk-weaker c.catalogue-answer.result _ _ (λ v is other. sym is) c.catalogue-answer.ensures.ok)
    (IfErr-weaker c.catalogue-answer.result _ _ (λ e is other. sym (is (λ same. other (ap Err same)))) c.catalogue-answer.ensures.err) (lacks (catalogued c.args.file.now)) c.tell_lines.ensures.ok c.tell_lines.ensures.err

pub returns-clause-left_out : goal.returns-clause-left_out
returns-clause-left_out c =
    left_told c.catalogue-answer.result (λ v. v.items) c.args.file.now c.tell_lines.result _ _ _ c.catalogue-answer.new.left_out c.tell_lines.new.left_out c.tell_lines.ensures.ok c.tell_lines.ensures.err
    c.catalogue-answer.ensures.refused c.tell_lines.ensures.kept c.tell_lines.ensures.none
