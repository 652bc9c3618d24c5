use Rattle.std.proofs.Common.{◌+◌, ◌*◌, length}
use Rattle.oct_delta.specs.Clocks.{entries_bytes}
use Rattle.oct_sync.proofs.Written.{framed_after, length-entries_bytes}
use Rattle.oct_answer.proofs.frames.put_entries_frame.Goals as goal

pub returns-clause-ok : goal.returns-clause-ok
returns-clause-ok g c =
    let es = c.args.entries.now in
    framed_after 1 (4 + 8 * length es) (entries_bytes es) c.args.out.now.items c.put_head.new.out.items _ (length-entries_bytes es) c.in_ok-put_head.ensures.ok c.in_ok-put_entries.ensures.ok
