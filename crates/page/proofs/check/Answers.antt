use Rattle.page.specs.Answers.{IsChecked, checked}
use Rattle.page.proofs.RightlyTold.{lacks, lacking_told, rightly_told}
use Rattle.page.proofs.check.Goals as goal

pub returns-in_default : goal.returns-in_default
returns-in_default c = lacking_told (IsChecked c.args.code.now c.args.file.now) _ _ _ _ (lacks (checked c.args.code.now c.args.file.now)) c.tell_no_memory.ensures

pub returns : goal.returns
returns c = rightly_told c.check-answer.result (λ v. v.items) (IsChecked c.args.code.now c.args.file.now) _ _ _ _ c.check-answer.ensures.ok c.check-answer.ensures.err (lacks (checked c.args.code.now c.args.file.now)) c.tell.ensures.ok c.tell.ensures.err
