use Rattle.census_search.specs.declared.searching.TheConstants.{SEARCH_LIMIT}
use Rattle.page.specs.Asked.{asked}
use Rattle.page.specs.Answers.{IsListed}
use Rattle.page.proofs.RightlyTold.{list_lacks, lacking_told, rightly_told}
use Rattle.page.proofs.values.Goals as goal

pub returns-in_default : goal.returns-in_default
returns-in_default c = lacking_told (IsListed c.args.code.now c.args.count) _ _ _ _ (list_lacks (asked SEARCH_LIMIT c.args.count c.args.code.now) c.args.count) c.tell_no_memory.ensures

pub returns : goal.returns
returns c = rightly_told c.values-answer.result (λ v. v.items) (IsListed c.args.code.now c.args.count) _ _ _ _ c.values-answer.ensures.ok c.values-answer.ensures.err (list_lacks (asked SEARCH_LIMIT c.args.count c.args.code.now) c.args.count) c.tell.ensures.ok c.tell.ensures.err
