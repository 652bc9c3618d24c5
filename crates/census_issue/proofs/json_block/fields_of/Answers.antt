use Rattle.std.proofs.Common.{sym, ◌∙◌}
use Rattle.census_issue.specs.Imported.{fields_at}
use Rattle.census_issue.proofs.Members.{other_size, size_is, sized}
use Rattle.census_issue.proofs.json_block.fields_of.Goals as goal

pub returns-then-count-ne3 : goal.returns-then-count-ne3
returns-then-count-ne3 c =
    let size = size_is _ c.in_ok-members.members.now.entries c.in_ok-members.ensures in
    sym (other_size _ (λ three. c.if-count-ne3.true (c.len-count.ensures.len ∙ sym size ∙ three)))

pub returns : goal.returns
returns c =
    let size = size_is _ c.in_ok-members.members.now.entries c.in_ok-members.ensures in
    (λ i. fields_at (c.in_ok-get.ensures i) (c.in_ok-get-2.ensures i) (c.in_ok-get-3.ensures i))
    ∙ sym (sized _ (size ∙ sym c.len-count.ensures.len ∙ c.if-count-ne3.false))
