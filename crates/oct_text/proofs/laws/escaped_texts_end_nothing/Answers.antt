use Rattle.oct_text.proofs.Escaping.{escaped_ends_nothing, escaped_inert}
use Rattle.oct_text.proofs.laws.escaped_texts_end_nothing.Goals as goal

pub returns-clause-inert : goal.returns-clause-inert
returns-clause-inert c = escaped_inert

pub returns-clause-none : goal.returns-clause-none
returns-clause-none c = escaped_ends_nothing
