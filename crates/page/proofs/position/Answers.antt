use Rattle.page.specs.Answers.{IsPosition, position}
use Rattle.page.proofs.RightlyTold.{lacks, lacking_told, rightly_told}
use Rattle.page.proofs.position.Goals as goal

pub returns-in_default : goal.returns-in_default
returns-in_default c = lacking_told (IsPosition c.args.code.now c.args.count c.args.heaps.now) _ _ _ _ (lacks (position c.args.code.now c.args.count c.args.heaps.now)) c.tell_no_memory.ensures

pub returns : goal.returns
returns c = rightly_told c.position-answer.result (λ v. v.items) (IsPosition c.args.code.now c.args.count c.args.heaps.now) _ _ _ _ c.position-answer.ensures.ok c.position-answer.ensures.err (lacks (position c.args.code.now c.args.count c.args.heaps.now)) c.tell.ensures.ok c.tell.ensures.err
