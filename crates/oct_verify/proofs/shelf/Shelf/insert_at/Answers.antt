use Rattle.std.proofs.Common.{◌≡◌, ap, ◌∙◌}
use Rattle.oct_ops.specs.Sets as set
use Rattle.oct_verify.specs.Kept.{filing_of}
use Rattle.oct_verify.specs.Shelf.{shelved}
use Rattle.oct_verify.proofs.shelf.Shelf.insert_at.Goals as goal
use Rattle.oct_verify.proofs.shelf.Shelf.insert_at.Goals.{then-start-self, else-start-self}

pub returns-clause-code : goal.returns-clause-code
returns-clause-code g c =
    let filed : c.if-start-self.self.comparer.values.code ≡ c.args.self.now.comparer.values.code =
    elim c.if-start-self.branch [
      | then-start-self w ↦ ap (λ s. s.comparer.values.code) w.self-is ∙ w.insert_reached.ensures.code
      | else-start-self w ↦ ap (λ s. s.comparer.values.code) w.self-is ∙ w.insert_parked.ensures.code
    ] in
    c.settle_waiting.ensures.code ∙ filed

pub returns-clause-filings : goal.returns-clause-filings
returns-clause-filings g c =
    let filed : shelved c.if-start-self.self ≡ set.insert (shelved c.args.self.now) (filing_of c.args.entry) =
    elim c.if-start-self.branch [
      | then-start-self w ↦ ap shelved w.self-is ∙ w.insert_reached.ensures.filings
      | else-start-self w ↦ ap shelved w.self-is ∙ w.insert_parked.ensures.filings
    ] in
    c.settle_waiting.ensures.filings ∙ filed
