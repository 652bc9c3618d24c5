use Rattle.std.proofs.Common.{◌≡◌, ℕ, ◌+◌, ◌∷◌, refl, sym, subst, ◌∙◌}
use Rattle.oct_record.proofs.Along.{TakesAlong, takes_start, takes_new, takes_held, takes_cut, takes_done, takes_short}
use Rattle.oct_record.proofs.taking.take_each.Goals as goal
use Rattle.oct_record.proofs.taking.take_each.Goals.{then-is_new, else-is_new}

pub loop-next-init : goal.loop-next-init
loop-next-init g c = takes_start (g.H.Holder.content c.args.holder.now) c.args.ops c.args.ops refl

pub loop-next-preserved : goal.loop-next-preserved
loop-next-preserved g c =
    let old = (g.H.Holder.content c.args.holder.now) in
    let now = (g.H.Holder.content c.loop-next.holder) in
    let new = (g.H.Holder.content c.insert.new.holder) in
    let list = c.args.ops in
    let rest = c.loop-next.ops in
    let next = c.next.new.self in
    let along = c.loop-next.invariant in
    let step : rest ≡ c.in-Some.op ∷ next = rw c.in-Some.is at c.in-Ok.ensures.ok in
    elim c.if-is_new.branch [
      | then-is_new w ↦
          subst (λ (n : ℕ). TakesAlong old new list next (c.loop-next.done + 1) n) (sym w.new-is)
          (takes_new old now new list rest next c.loop-next.done c.loop-next.new c.in-Some.op c.requires.rising along step c.in-Ok-insert.ensures.ok (sym w.if-is_new.true ∙ c.in-Ok-insert.ensures.added))
      | else-is_new w ↦
          subst (λ (n : ℕ). TakesAlong old new list next (c.loop-next.done + 1) n) (sym w.new-is)
          (takes_held old now new list rest next c.loop-next.done c.loop-next.new c.in-Some.op c.requires.rising along step c.in-Ok-insert.ensures.ok (sym w.if-is_new.false ∙ c.in-Ok-insert.ensures.added))
    ]

pub returns-in_default-clause-err : goal.returns-in_default-clause-err
returns-in_default-clause-err g c =
    takes_short (g.H.Holder.content c.args.holder.now) (g.H.Holder.content c.loop-next.holder) c.args.ops c.loop-next.ops c.loop-next.done c.loop-next.new c.loop-next.invariant c.in_default.ensures.due

pub returns-in_default-next-clause-ok : goal.returns-in_default-next-clause-ok
returns-in_default-next-clause-ok g c =
    let none = rw c.in_default-next.is at c.in-Ok.ensures.ok in
    (takes_done (g.H.Holder.content c.args.holder.now) (g.H.Holder.content c.loop-next.holder) c.args.ops c.loop-next.ops c.loop-next.done c.loop-next.new none.0 c.loop-next.invariant).0

pub returns-in_default-next-clause-new : goal.returns-in_default-next-clause-new
returns-in_default-next-clause-new g c =
    let none = rw c.in_default-next.is at c.in-Ok.ensures.ok in
    (takes_done (g.H.Holder.content c.args.holder.now) (g.H.Holder.content c.loop-next.holder) c.args.ops c.loop-next.ops c.loop-next.done c.loop-next.new none.0 c.loop-next.invariant).1

pub returns-in_default-insert-clause-err : goal.returns-in_default-insert-clause-err
returns-in_default-insert-clause-err g c =
    takes_cut (g.H.Holder.content c.args.holder.now) (g.H.Holder.content c.loop-next.holder) (g.H.Holder.content c.insert.new.holder) c.args.ops c.loop-next.ops c.next.new.self c.loop-next.done c.loop-next.new c.in-Some.op
    c.loop-next.invariant (rw c.in-Some.is at c.in-Ok.ensures.ok) c.in_default-insert.ensures.err
