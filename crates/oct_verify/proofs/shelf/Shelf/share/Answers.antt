use Rattle.std.proofs.Common.{◌≡◌, true, false, OnErr, Ok, Err, sym, ap, subst, ◌∙◌}
use Rattle.oct_ops.specs.Body.{Operation}
use Rattle.oct_ops.specs.Sets as set
use Rattle.oct_verify.specs.Filed.{block_in, filing_in}
use Rattle.oct_verify.specs.Filing.{Filing}
use Rattle.oct_verify.specs.Shelf.{shelved, HasRoomFor}
use Rattle.oct_verify.proofs.Filings.{insert_filed}
use Rattle.oct_verify.proofs.Growing.{absent_yet}
use Rattle.oct_verify.proofs.shelf.Shelf.share.Goals as goal

-- the block is here already
pub returns-in_default-clause-ok : goal.returns-in_default-clause-ok
returns-in_default-clause-ok g c =
    let o : Operation = c.args.op.now.value in
    let f : Filing = filing_in o in
    let new = shelved c.make_room.new.self in
    let same : (c.dot.result, c.block_within.result.now) ≡ f = λ i. ((c.dot.ensures.value ∙ ap (λ (o : Operation). o.dot) c.deref.ensures) i, (c.block_within.ensures ∙ ap (λ (o : Operation). block_in o.body) c.deref-2.ensures) i) in
    let here : set.contains new f ≡ true = subst (λ f. set.contains new f ≡ true) same (rw c.in_default.is at c.in_ok-place.ensures.ok) in
    sym (insert_filed new f here) ∙ ap (λ s. set.insert s f) c.make_room.ensures.filings

-- the operation can't be shared once more
pub returns-in_err-clone-clause-absent : goal.returns-in_err-clone-clause-absent
returns-in_err-clone-clause-absent g c =
    let o : Operation = c.args.op.now.value in
    let f : Filing = filing_in o in
    let same : (c.dot.result, c.block_within.result.now) ≡ f = λ i. ((c.dot.ensures.value ∙ ap (λ (o : Operation). o.dot) c.deref.ensures) i, (c.block_within.ensures ∙ ap (λ (o : Operation). block_in o.body) c.deref-2.ensures) i) in
    let room : HasRoomFor c.make_room.new.self f c.in-Some.place = subst (λ f. HasRoomFor c.make_room.new.self f c.in-Some.place) same (rw c.in-Some.is at c.in_ok-place.ensures.ok) in
    elim c.from_residual-in_err-clone.result as (λ r. OnErr r (set.contains (shelved c.args.self.now) f ≡ false)) [
      | Ok _ ↦ tt
      | Err _ ↦ ap (λ s. set.contains s f) (sym c.make_room.ensures.filings) ∙ absent_yet c.make_room.new.self f c.in-Some.place room
    ]
