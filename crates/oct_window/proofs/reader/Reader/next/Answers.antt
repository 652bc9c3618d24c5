use Rattle.std.proofs.Common.{arith, vec_len}
use Rattle.oct_window.proofs.RowReads.{read}
use Rattle.oct_window.proofs.reader.Reader.next.Goals as goal

pub returns-then-self-len-clause-value : goal.returns-then-self-len-clause-value
returns-then-self-len-clause-value g c code row right sets =
    let held = c.args.row.now.values in
    read code (vec_len held) c.args.self.now.heap c.index-value.result.now held.items row.values (omega (arith, c.len.ensures)) c.index-value.ensures
