use Rattle.std.proofs.Common.{sym, ap, ◌∙◌}
use Rattle.oct_ops.specs.Order.{op_cmp}
use Rattle.oct_ops.specs.Operations.{listed}
use Rattle.oct_ops.specs.SetLaws.{listed-rises}
use Rattle.oct_store.specs.Rows.{with_number}
use Rattle.oct_store.proofs.Counts.{one_open, author_goes_on, author_ends, author_starts, author_last, no_author, authors_are}
use Rattle.oct_store.proofs.store.Store.authors.Goals as goal
use Rattle.oct_store.proofs.store.Store.authors.Goals.{in-Some-current-2+in_ok-push, in_default}

pub loop-op-preserved-in-Some-current : goal.loop-op-preserved-in-Some-current
loop-op-preserved-in-Some-current g c =
    author_goes_on _ _ c.in-Some.op.now c.in-Some.ensures.steps _ _ _ c.loop-op.invariant _ _
    (c.author.ensures.value ∙ ap (λ d. d.author) c.dot-dot.ensures.value) (c.number.ensures.value ∙ ap (λ d. d.number) c.dot-dot.ensures.value)
    c.in-Some-current.author _ c.in-Some-current.is c.if-author.true c.with.ensures

pub loop-op-preserved-in_ok-push-in-Some-2 : goal.loop-op-preserved-in_ok-push-in-Some-2
loop-op-preserved-in_ok-push-in-Some-2 g c =
    let author = ap (λ d. d.author) c.dot-dot.ensures.value in
    let same = c.author.ensures.value ∙ sym c.author-in-Some-2.ensures.value in
    let open_row = ap (λ a. a.author) (one_open c.in-Some-current.is c.in-Some-2.is) in
    author_ends _ _ c.in-Some.op.now c.in-Some.ensures.steps _ _ _ c.loop-op.invariant _ _
    (c.author-in-Some-2.ensures.value ∙ author) (c.number-in-Some-2.ensures.value ∙ ap (λ d. d.number) c.dot-dot.ensures.value)
    c.in-Some-2.author _ _ c.in-Some-2.is (λ e. c.if-author.false (open_row ∙ e ∙ sym same)) c.in_ok-push-in-Some-2.ensures.items
    (c.with-in-Some-2.ensures ∙ ap (λ a. with_number a c.number-in-Some-2.result) c.unseen.ensures)

pub loop-op-preserved : goal.loop-op-preserved
loop-op-preserved g c =
    author_starts _ _ c.in-Some.op.now c.in-Some.ensures.steps _ _ _ c.loop-op.invariant _ _
    (c.author-in-None-current.ensures.value ∙ ap (λ d. d.author) c.dot-dot.ensures.value) (c.number-in-None-current.ensures.value ∙ ap (λ d. d.number) c.dot-dot.ensures.value)
    _ c.in-None-current.is (c.with-in-None-current.ensures ∙ ap (λ a. with_number a c.number-in-None-current.result) c.unseen-in-None-current.ensures)

pub returns : goal.returns
returns g c =
    let whole = authors_are (listed c.args.self.now) (listed-rises op_cmp c.args.self.now) in
    elim c.match-current-2.branch [
      | in-Some-current-2+in_ok-push w ↦
          author_last _ c.in-None.ensures.steps.0 _ _ _ c.loop-op.invariant w.in-Some-current-2.author _ w.in-Some-current-2.is
          (ap (λ v. v.items) w.authors-is ∙ w.in_ok-push.ensures.items) ∙ whole
      | in_default w ↦ no_author _ c.in-None.ensures.steps.0 _ _ _ c.loop-op.invariant _ w.in_default.is (ap (λ v. v.items) w.authors-is) ∙ whole
    ]
