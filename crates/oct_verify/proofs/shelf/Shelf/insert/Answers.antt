use Rattle.std.proofs.Common.{sym, ap, ◌∙◌}
use Rattle.oct_ops.specs.Sets as set
use Rattle.oct_verify.specs.Filing.{Filing}
use Rattle.oct_verify.specs.Shelf.{shelved}
use Rattle.oct_verify.proofs.Filings.{insert_filed}
use Rattle.oct_verify.proofs.Growing.{absent_yet}
use Rattle.oct_verify.proofs.shelf.Shelf.insert.Goals as goal

-- the block is here already
pub returns-in-Ok-None-clause-ok : goal.returns-in-Ok-None-clause-ok
returns-in-Ok-None-clause-ok g c =
    let f : Filing = (c.args.dot, c.args.block) in
    sym (insert_filed (shelved c.make_room.new.self) f (rw c.in-Ok-None.field-0-is at c.in-Ok-None.ensures.ok)) ∙ ap (λ s. set.insert s f) c.in-Ok-None.ensures.filings

-- there is no memory for the operation
pub returns-in-Err-new-clause-absent : goal.returns-in-Err-new-clause-absent
returns-in-Err-new-clause-absent g c =
    let f : Filing = (c.args.dot, c.args.block) in
    ap (λ s. set.contains s f) (sym c.make_room.ensures.filings) ∙ absent_yet c.make_room.new.self f c.in-Ok-Some.place (rw c.in-Ok-Some.field-0-is at c.in-Ok-Some.ensures.ok)
