use Rattle.oct_ops.proofs.Growing.{extended, extended_grown}
use Rattle.oct_text.proofs.words.append_text.Goals as goal

pub returns-clause-ok : goal.returns-clause-ok
returns-clause-ok g c = extended c.extend_from_slice.result c.args.out.now.items c.extend_from_slice.new.self.items c.args.text.now c.extend_from_slice.ensures.items

pub returns-clause-grown : goal.returns-clause-grown
returns-clause-grown g c = extended_grown c.extend_from_slice.result c.args.out.now.items c.extend_from_slice.new.self.items c.args.text.now c.extend_from_slice.ensures.items
