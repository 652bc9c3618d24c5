use Rattle.std.proofs.Common.{nat_lt, sym, ap, ◌∙◌, arith, ◌+◌}
use Rattle.oct_ops.specs.Operation.{dot_of}
use Rattle.oct_ops.specs.Operations.{listed}
use Rattle.oct_record.specs.Content.{RecordContent}
use Rattle.oct_record.specs.Taking.{has_number, last_number}
use Rattle.oct_store.specs.Summary.{last}
use Rattle.std.proofs.lemmas.Bool.{lt-ltb}
use Rattle.oct_record.proofs.record.Record.next_dot.Goals as goal

pub returns-then-last-clause-dot : goal.returns-then-last-clause-dot
returns-then-last-clause-dot g c = tt

pub returns-then-last-clause-room : goal.returns-then-last-clause-room
returns-then-last-clause-room g c =
    sym
    (ap (λ (r : RecordContent). has_number r.ops r.author) (sym c.self.view_is)
    ∙ ap (λ n. nat_lt n last_number) (sym c.last-last.ensures ∙ c.if-last.true))

pub returns-clause-dot : goal.returns-clause-dot
returns-clause-dot g c =
    c.own_dot.ensures
    ∙ ap (λ n. dot_of c.self.inside.author (n + 1)) c.last-last.ensures
    ∙ ap (λ (r : RecordContent). dot_of r.author (last (listed r.ops) r.author + 1)) c.self.view_is

pub returns-clause-room : goal.returns-clause-room
returns-clause-room g c =
    sym
    (ap (λ (r : RecordContent). has_number r.ops r.author) (sym c.self.view_is)
    ∙ ap (λ n. nat_lt n last_number) (sym c.last-last.ensures)
    ∙ lt-ltb c.last-last.result last_number (omega (arith, c.if-last.false, c.last-last.type_inv)))
