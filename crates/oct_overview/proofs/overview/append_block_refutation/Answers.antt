use Rattle.oct_text.proofs.Joined.{joined_two}
use Rattle.oct_overview.proofs.overview.append_block_refutation.Goals as goal

pub returns-in_ok-append_wrong_block-in-Refuted-clause-ok : goal.returns-in_ok-append_wrong_block-in-Refuted-clause-ok
returns-in_ok-append_wrong_block-in-Refuted-clause-ok g c =
    rw c.in-Refuted.is
    (joined_two c.append_line_end.result _ _ _ _ _
    c.in_ok-append_wrong_block-in-Refuted.ensures.ok c.append_line_end.ensures.ok)
