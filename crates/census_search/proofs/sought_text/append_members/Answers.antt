use Rattle.std.proofs.lemmas.Result.{on_ok_weaker}
use Rattle.oct_ops.proofs.Growing.{grown_twice}
use Rattle.census_search.proofs.sought_text.append_members.Goals as goal

pub returns-in_ok-append_period_members-in-Least : goal.returns-in_ok-append_period_members-in-Least
returns-in_ok-append_period_members-in-Least c =
    rw c.in-Least.is (on_ok_weaker c.append_labelled.result (λ last. grown_twice _ _ _ _ _ c.in_ok-append_period_members-in-Least.ensures last) c.append_labelled.ensures.ok)

pub returns-in-Unshown : goal.returns-in-Unshown
returns-in-Unshown c = rw c.in-Unshown.is c.append_labelled-in-Unshown.ensures.ok

pub returns-in_ok-append_labelled-in-Unseen : goal.returns-in_ok-append_labelled-in-Unseen
returns-in_ok-append_labelled-in-Unseen c =
    rw c.in-Unseen.is (on_ok_weaker c.append_text.result (λ last. grown_twice _ _ _ _ _ c.in_ok-append_labelled-in-Unseen.ensures.ok last) c.append_text.ensures.ok)
