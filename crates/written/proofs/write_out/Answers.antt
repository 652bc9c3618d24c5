use Rattle.std.proofs.Common.{arith, length-drop}
use Rattle.std.proofs.KnownBytes.{Appends-trans}
use Rattle.std.proofs.Math.Seq.{take-add}
use Rattle.std.proofs.lemmas.List.{take_rest}
use Rattle.written.proofs.write_out.Goals as goal

pub loop-written-preserved : goal.loop-written-preserved
loop-written-preserved g c =
    let bound = rw take_rest at c.in_ok-written.ensures.bound in
    let bytes = rw take_rest at c.in_ok-written.ensures.ok in
    record {
      within = omega (arith, bound, length-drop c.loop-written.written c.args.bytes.now);
      appended = rw take-add (Appends-trans _ _ _ _ _ c.loop-written.invariant.appended bytes);
    }
