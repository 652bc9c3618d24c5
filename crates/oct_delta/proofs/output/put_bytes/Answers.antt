use Rattle.oct_ops.proofs.Growing.{extended, extended_grown}
use Rattle.oct_delta.proofs.output.put_bytes.Goals as goal

pub returns-clause-ok : goal.returns-clause-ok
returns-clause-ok g c = extended c.extend_from_slice.result c.args.out.now.items c.extend_from_slice.new.self.items c.args.bytes.now c.extend_from_slice.ensures.items

pub returns-clause-kept : goal.returns-clause-kept
returns-clause-kept g c = extended_grown c.extend_from_slice.result c.args.out.now.items c.extend_from_slice.new.self.items c.args.bytes.now c.extend_from_slice.ensures.items
