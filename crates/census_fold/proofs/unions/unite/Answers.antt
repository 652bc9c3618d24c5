use Rattle.std.proofs.Common.{sym, ap, ◌∙◌}
use Rattle.std.proofs.lemmas.Result.{IfErr-weaker, IfOk-weaker}
use Rattle.oct_ops.specs.Operations.{Operations, listed}
use Rattle.census_fold.specs.Deltas.{delta_of}
use Rattle.census_state.proofs.Rounds.{next_item}
use Rattle.census_fold.proofs.Gathering.{all_taken, each_valid, gathered, none_valid, passed, read_here, still_valid}
use Rattle.census_state.proofs.Rounds.{from_none}
use Rattle.census_fold.proofs.unions.unite.Goals as goal

pub loop-file-init : goal.loop-file-init
loop-file-init c = record {
  taken = from_none c.new-all.result _ c.new-all.ensures;
  unrefused = c.in_ok-check_files.ensures.ok;
  valid = none_valid c.new-all.result c.new-all.ensures;
}

pub loop-file-preserved : goal.loop-file-preserved
loop-file-preserved c =
    let files = c.args.files.now in
    let file = c.file-item.result in
    let next = next_item files c.loop-file.file-index file c.loop-file-test.true c.file-item.is in
    let more = c.in_ok-take_file.ensures in
    let read = read_here (λ file. file.items) files c.loop-file.file-index file c.deref.result.now next c.deref.ensures.value c.loop-file.invariant.unrefused in
    record {
      taken = gathered (λ file. file.items) files c.loop-file.file-index file c.deref.result.now next c.deref.ensures.value c.loop-file.all c.take_file.new.all _ c.loop-file.invariant.taken more.taken;
      unrefused = passed (λ file. file.items) files c.loop-file.file-index file c.deref.result.now next c.deref.ensures.value _ c.loop-file.invariant.unrefused read;
      valid = rw more.taken (still_valid c.loop-file.all _ c.loop-file.invariant.valid more.valid);
    }

pub delta_reply-requires : goal.delta_reply-requires
delta_reply-requires c = record { valid = rw c.as_record.ensures (each_valid c.loop-file.all c.loop-file.invariant.valid) }

pub returns-clause-ok : goal.returns-clause-ok
returns-clause-ok c =
    IfOk-weaker c.delta_reply.result _ _
    (λ reply done. all_taken (λ file. file.items) c.args.files.now c.loop-file.file-index c.loop-file.all c.loop-file-test.false c.loop-file.invariant.taken (c.loop-file.invariant.unrefused ∙ sym c.in_ok-check_files.ensures.ok) ∙ ap (λ (ops : Operations). delta_of (listed ops)) (sym c.as_record.ensures) ∙ done) c.delta_reply.ensures.ok

pub returns-clause-err : goal.returns-clause-err
returns-clause-err c =
    IfErr-weaker c.delta_reply.result _ _
    (λ e done other. all_taken (λ file. file.items) c.args.files.now c.loop-file.file-index c.loop-file.all c.loop-file-test.false c.loop-file.invariant.taken (c.loop-file.invariant.unrefused ∙ sym c.in_ok-check_files.ensures.ok) ∙ ap (λ (ops : Operations). delta_of (listed ops)) (sym c.as_record.ensures) ∙ done other) c.delta_reply.ensures.err
