use Rattle.std.proofs.Common.{sym, ap, ◌∙◌, arith}
use Rattle.oct_ops.specs.Order.{op_cmp}
use Rattle.oct_ops.specs.Operations.{listed}
use Rattle.oct_ops.specs.SetLaws.{listed-rises}
use Rattle.oct_store.specs.Rows.{with_content}
use Rattle.oct_store.proofs.Counts.{fork_goes_on, fork_ends, fork_starts, fork_last, no_fork, forks_are, room_left, contents_of}
use Rattle.oct_store.proofs.store.Store.forks.Goals as goal
use Rattle.oct_store.proofs.store.Store.forks.Goals.{in-Some-current, in-Some-2+in_ok-push_fork-in-Some-2, in-None-current, in-Some-current-2+in_ok-push_fork, in_default}

pub loop-op-preserved : goal.loop-op-preserved
loop-op-preserved g c =
    let steps = c.in-Some.ensures.steps in
    let gathered = c.loop-op.invariant.gathered in
    elim c.match-current.branch [
      | in-Some-current w ↦
          let grown = w.current-is ∙ w.with_content.ensures in
          let held = ap contents_of w.in-Some-current.is in
          record {
            gathered = fork_goes_on _ _ c.in-Some.op.now steps _ _ _ gathered w.in-Some-current.fork _ w.dot.result _ w.in-Some-current.is w.dot.ensures.value (sym w.eq.ensures ∙ w.if-eq.true) (ap (λ v. v.items) w.forks-is) grown;
            room = room_left _ _ c.in-Some.op.now c.loop-op.current _ c.match-current.current steps c.loop-op.invariant.room (let count = ap (λ f. f.contents) grown in omega (arith, held, count));
          }
      | in-Some-2+in_ok-push_fork-in-Some-2 w ↦
          let begun = w.current-is ∙ w.with_content-in-Some-2.ensures ∙ ap with_content w.uncounted.ensures in
          record {
            gathered = fork_ends _ _ c.in-Some.op.now steps _ _ _ gathered w.in-Some-current.fork _ w.dot.result w.dot-in-Some-2.result _ w.in-Some-current.is w.dot.ensures.value (sym w.eq.ensures ∙ w.if-eq.false) w.dot-in-Some-2.ensures.value (ap (λ v. v.items) w.forks-is ∙ w.in_ok-push_fork-in-Some-2.ensures) begun;
            room = room_left _ _ c.in-Some.op.now c.loop-op.current _ c.match-current.current steps c.loop-op.invariant.room (let count = ap (λ f. f.contents) begun in omega (arith, count));
          }
      | in-None-current w ↦
          let begun = w.current-is ∙ w.with_content-in-None-current.ensures ∙ ap with_content w.uncounted-in-None-current.ensures in
          record {
            gathered = fork_starts _ _ c.in-Some.op.now steps _ _ _ gathered _ w.dot-in-None-current.result _ w.in-None-current.is w.dot-in-None-current.ensures.value (ap (λ v. v.items) w.forks-is) begun;
            room = room_left _ _ c.in-Some.op.now c.loop-op.current _ c.match-current.current steps c.loop-op.invariant.room (let count = ap (λ f. f.contents) begun in omega (arith, count));
          }
    ]

pub returns : goal.returns
returns g c =
    let whole = forks_are (listed c.args.self.now) (listed-rises op_cmp c.args.self.now) in
    elim c.match-current-2.branch [
      | in-Some-current-2+in_ok-push_fork w ↦
          fork_last _ c.in-None.ensures.steps.0 _ _ _ c.loop-op.invariant.gathered w.in-Some-current-2.fork _ w.in-Some-current-2.is
          (ap (λ v. v.items) w.forks-is ∙ w.in_ok-push_fork.ensures) ∙ whole
      | in_default w ↦ no_fork _ c.in-None.ensures.steps.0 _ _ _ c.loop-op.invariant.gathered _ w.in_default.is (ap (λ v. v.items) w.forks-is) ∙ whole
    ]
