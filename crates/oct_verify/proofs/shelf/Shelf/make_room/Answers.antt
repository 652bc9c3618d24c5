use Rattle.std.proofs.Common.{◌≡◌, false, OnErr, Ok, Err, refl, ap, arith}
use Rattle.std.proofs.lemmas.Bool.{false_from_ne_true}
use Rattle.oct_ops.specs.Sets.{contains}
use Rattle.oct_verify.specs.Shelf.{shelved}
use Rattle.oct_mex.specs.Held.{Held}
use Rattle.oct_verify.specs.Filing.{Filing}
use Rattle.chunked.specs.Chunked.{chunked, index_of}
use Rattle.oct_verify.proofs.Growing.{kept_grown}
use Rattle.oct_verify.proofs.Searching.{filed_at, gap_not_filed}
use Rattle.oct_verify.proofs.shelf.Shelf.make_room.Goals as goal

pub returns-in_err-room_to-clause-kept : goal.returns-in_err-room_to-clause-kept
returns-in_err-room_to-clause-kept g c = rw c.in_err-room_to.ensures.err c.requires.kept

pub returns-in_err-room_at-clause-kept : goal.returns-in_err-room_at-clause-kept
returns-in_err-room_at-clause-kept g c =
    let old = c.args.self.now in
    let more = c.in_ok-room_to.ensures.ok in
    let room = ap (λ (h : Held). h.room) more in
    kept_grown old record { comparer = record old.comparer { values = c.room_to.new.self }; entries = c.room_at.new.self; known = old.known; alloc = old.alloc } c.requires.kept c.in_err-room_at.ensures.chunked c.in_err-room_at.ensures.same refl refl
    (ap (λ (h : Held). h.code) more) (ap (λ (h : Held). h.len) more) (omega (arith, room))

pub returns-clause-kept : goal.returns-clause-kept
returns-clause-kept g c =
    let old = c.args.self.now in
    let more = c.in_ok-room_to.ensures.ok in
    let room = ap (λ (h : Held). h.room) more in
    kept_grown old record { comparer = record old.comparer { values = c.room_to.new.self }; entries = c.room_at.new.self; known = old.known; alloc = old.alloc } c.requires.kept c.in_ok-room_at.ensures.chunked c.in_ok-room_at.ensures.same refl refl
    (ap (λ (h : Held). h.code) more) (ap (λ (h : Held). h.len) more) (omega (arith, room))

pub returns-in_default-clause-ok : goal.returns-in_default-clause-ok
returns-in_default-clause-ok g c =
    let target : Filing = (c.args.dot.now, c.args.block.now) in
    let entries = c.args.self.now.entries in
    filed_at (chunked entries) c.requires.kept.halfway.settling.rising target (index_of entries c.in_default.field-0) c.in_default.ensures.1

pub returns-in_err-room_to-clause-absent : goal.returns-in_err-room_to-clause-absent
returns-in_err-room_to-clause-absent g c =
    let f : Filing = (c.args.dot.now, c.args.block.now) in
    let entries = c.args.self.now.entries in
    elim c.from_residual.result as (λ r. OnErr r (contains (shelved c.args.self.now) f ≡ false)) [
      | Ok _ ↦ tt
      | Err _ ↦ false_from_ne_true _ (gap_not_filed (chunked entries) f (index_of entries c.in-Err.place) c.in-Err.ensures.1)
    ]

pub returns-in_err-room_at-clause-absent : goal.returns-in_err-room_at-clause-absent
returns-in_err-room_at-clause-absent g c =
    let f : Filing = (c.args.dot.now, c.args.block.now) in
    let entries = c.args.self.now.entries in
    elim c.from_residual-in_err-room_at.result as (λ r. OnErr r (contains (shelved c.args.self.now) f ≡ false)) [
      | Ok _ ↦ tt
      | Err _ ↦ false_from_ne_true _ (gap_not_filed (chunked entries) f (index_of entries c.in-Err.place) c.in-Err.ensures.1)
    ]
