use Rattle.oct_delta.proofs.Pieces.{whole_here}
use Rattle.oct_delta.proofs.reader.Reader.items.Goals as goal

pub returns-in-Reading-clause-whole : goal.returns-in-Reading-clause-whole
returns-in-Reading-clause-whole g c = whole_here c.self.inside.state c.in-Reading.arrived c.args.self.now c.deref.result.now c.in-Reading.is c.self.invariant c.self.view_is c.deref.ensures.value
