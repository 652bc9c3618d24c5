use Rattle.std.proofs.Common.{◌++◌, List, ℕ, take, ap, ◌∙◌}
use Rattle.oct_delta.specs.Clocks.{entries_bytes}
use Rattle.oct_join.specs.Clock.{entries}
use Rattle.oct_store.specs.Summary.{clock_of}
use Rattle.oct_sync.specs.Frames.{frame_bytes}
use Rattle.oct_answer.proofs.Leaving.{as_listed}
use Rattle.oct_answer.proofs.snapshot.Snapshot.put_clock.Goals as goal

pub returns-clause-ok : goal.returns-clause-ok
returns-clause-ok g c =
    c.in_ok-put_clock_frame.ensures.ok
    ∙ ap (λ (es : List (ℕ × ℕ)). c.args.out.now.items ++ frame_bytes 1 (entries_bytes es))
    (ap (take 65536) (ap entries (c.self.invariant.clock ∙ ap clock_of (as_listed c.args.self.now c.self.inside.ops.items c.self.invariant.rising c.self.view_is))))
