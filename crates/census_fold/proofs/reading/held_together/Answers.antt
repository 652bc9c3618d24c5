use Rattle.std.proofs.Common.{map, sym, ap, ◌∙◌}
use Rattle.std.proofs.lemmas.Result.{err_from_is_err_and}
use Rattle.std.proofs.lemmas.List.{drop_all}
use Rattle.census_fold.specs.Reading.{held_onto}
use Rattle.census_state.proofs.Rounds.{next_item}
use Rattle.census_fold.proofs.Together.{not_read_next, read_next}
use Rattle.census_fold.proofs.reading.held_together.Goals as goal

pub loop-file-init : goal.loop-file-init
loop-file-init c = ap (λ s. held_onto s (map (λ file. file.items) c.args.files.now)) c.new-all.ensures

pub loop-file-preserved : goal.loop-file-preserved
loop-file-preserved c =
    read_next (λ file. file.items) c.args.files.now c.loop-file.file-index c.file-item.result
    (next_item c.args.files.now c.loop-file.file-index c.file-item.result c.loop-file-test.true c.file-item.is) c.loop-file.all c.deref.result.now c.in_ok-held.held c.join.new.self _
    c.deref.ensures.value c.in_ok-held.ensures.ok c.in_ok-join.ensures.ok c.loop-file.invariant

pub returns-in_err-held-clause-err : goal.returns-in_err-held-clause-err
returns-in_err-held-clause-err c =
    let p = err_from_is_err_and c.from_residual.result c.from_residual.ensures.1 in
    rw (p.1, p.2) (λ other. not_read_next (λ file. file.items) c.args.files.now c.loop-file.file-index c.file-item.result
    (next_item c.args.files.now c.loop-file.file-index c.file-item.result c.loop-file-test.true c.file-item.is) c.loop-file.all c.deref.result.now _ _
    c.deref.ensures.value (c.in_err-held.ensures.err other) c.loop-file.invariant)

pub returns-clause-ok : goal.returns-clause-ok
returns-clause-ok c =
    sym c.loop-file.invariant ∙ ap (λ fs. held_onto c.loop-file.all (map (λ file. file.items) fs)) (drop_all c.loop-file.file-index c.args.files.now c.loop-file-test.false)
