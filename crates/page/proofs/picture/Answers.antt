use Rattle.page.specs.Answers.{IsPicture, picture}
use Rattle.page.proofs.RightlyTold.{lacks, lacking_told, rightly_told}
use Rattle.page.proofs.picture.Goals as goal

pub returns-in_default : goal.returns-in_default
returns-in_default c = lacking_told (IsPicture c.args.code.now c.args.count) _ _ _ _ (lacks (picture c.args.code.now c.args.count)) c.tell_no_memory.ensures

pub returns : goal.returns
returns c = rightly_told c.picture-answer.result (λ v. v.items) (IsPicture c.args.code.now c.args.count) _ _ _ _ c.picture-answer.ensures.ok c.picture-answer.ensures.err (lacks (picture c.args.code.now c.args.count)) c.tell.ensures.ok c.tell.ensures.err
