use Rattle.census_search.specs.declared.searching.TheConstants.{SEARCH_LIMIT}
use Rattle.page.specs.Asked.{asked}
use Rattle.page.specs.Answers.{IsSearched}
use Rattle.page.proofs.RightlyTold.{search_lacks, lacking_told, rightly_told}
use Rattle.page.proofs.search.Goals as goal

pub returns-in_default : goal.returns-in_default
returns-in_default c = lacking_told (IsSearched c.args.code.now c.args.count) _ _ _ _ (search_lacks (asked SEARCH_LIMIT c.args.count c.args.code.now) c.args.count) c.tell_no_memory.ensures

pub returns : goal.returns
returns c = rightly_told c.search-answer.result (λ v. v.items) (IsSearched c.args.code.now c.args.count) _ _ _ _ c.search-answer.ensures.ok c.search-answer.ensures.err (search_lacks (asked SEARCH_LIMIT c.args.count c.args.code.now) c.args.count) c.tell.ensures.ok c.tell.ensures.err
