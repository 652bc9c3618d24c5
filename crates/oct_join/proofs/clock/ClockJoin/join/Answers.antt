use Rattle.std.proofs.lemmas.Result.{err_from_is_err_and}
use Rattle.std.proofs.lemmas.List.{drop_all}
use Rattle.oct_join.proofs.Merging.{merges_start, merges_next, merges_done, merges_between, merges_lack}
use Rattle.oct_join.proofs.Places.{next_of}
use Rattle.oct_join.proofs.clock.ClockJoin.join.Goals as goal

pub loop-author-init : goal.loop-author-init
loop-author-init g c = merges_start _ _ _ c.entries-author-items.ensures.all

pub returns-in_err-raise-clause-err : goal.returns-in_err-raise-clause-err
returns-in_err-raise-clause-err g c =
    let p = err_from_is_err_and c.from_residual.result c.from_residual.ensures.1 in
    rw (p.1, c.in_err-raise.ensures.err) (merges_between _ _ _ _ c.loop-author.invariant)

pub returns-in_err-raise-clause-absent : goal.returns-in_err-raise-clause-absent
returns-in_err-raise-clause-absent g c =
    let next = next_of c.entries-author-items.result.now c.entries-author-items.ensures.valid c.loop-author.author-index c.loop-author-test.true in
    rw (err_from_is_err_and c.from_residual.result c.from_residual.ensures.1).1
    (merges_lack _ _ _ _ _ _ _ next.splits next.valid.number.0 next.below c.in_err-raise.ensures.absent.1 c.loop-author.invariant)

pub loop-author-preserved : goal.loop-author-preserved
loop-author-preserved g c =
    let next = next_of c.entries-author-items.result.now c.entries-author-items.ensures.valid c.loop-author.author-index c.loop-author-test.true in
    merges_next _ _ _ _ _ _ _ _ next.splits next.valid.number.0 next.below c.in_ok-raise.ensures.ok c.loop-author.invariant

pub returns-clause-ok : goal.returns-clause-ok
returns-clause-ok g c = merges_done _ _ _ _ (drop_all _ _ c.loop-author-test.false) c.loop-author.invariant
