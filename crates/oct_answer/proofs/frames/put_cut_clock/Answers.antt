use Rattle.std.proofs.Common.{◌++◌, List, ℕ, take, ap, ◌∙◌}
use Rattle.oct_delta.specs.Clocks.{entries_bytes}
use Rattle.oct_sync.specs.Frames.{frame_bytes}
use Rattle.oct_sync.proofs.Written.{take_min}
use Rattle.oct_answer.proofs.frames.put_cut_clock.Goals as goal

pub returns-clause-ok : goal.returns-clause-ok
returns-clause-ok g c =
    c.in_ok-put_entries_frame.ensures.ok
    ∙ ap (λ (es : List (ℕ × ℕ)). c.args.out.now.items ++ frame_bytes 1 (entries_bytes es)) (take_min c.entries-entries.result.now 65536 c.min.result c.min.ensures ∙ ap (take 65536) c.entries-entries.ensures.all)
