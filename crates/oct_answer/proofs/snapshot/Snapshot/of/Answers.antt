use Rattle.oct_answer.proofs.Listing.{all_listed, of_listed, is_snapshot}
use Rattle.oct_answer.proofs.snapshot.Snapshot.of.Goals as goal

pub invariant_of-result : goal.invariant_of-result
invariant_of-result g c = is_snapshot c.args.said.now.ops _ _ (all_listed _ _ _ c.in-None.ensures.steps.0 c.loop-op.invariant) c.clock.ensures.valid c.in_ok-clock.ensures.ok

pub returns : goal.returns
returns g c = of_listed c.args.said.now.ops _ (all_listed _ _ _ c.in-None.ensures.steps.0 c.loop-op.invariant)
