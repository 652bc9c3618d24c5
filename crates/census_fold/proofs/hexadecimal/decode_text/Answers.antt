use Rattle.std.proofs.Common.{rules, arith, ◌+◌, ap, subst, sym}
use Rattle.std.specs.Prelude.{is_some}
use Rattle.census_fold.proofs.DigitPairs.{HasRead, all_read, high_is_none, low_is_none, one_more}
use Rattle.census_fold.proofs.hexadecimal.decode_text.Goals as goal

pub returns-in_default-clause-spelled : goal.returns-in_default-clause-spelled
returns-in_default-clause-spelled g c =
    ap is_some (sym (low_is_none c.args.text.now c.pairs.i c.pairs.bytes.items c.in_default.field-0-0 (omega (arith, c.if-count-text.false)) (omega (arith, c.pairs-test.true, c.if-count-text.false)) (search rules) (search rules) c.pairs.invariant.read))

pub returns-in_default-2-clause-spelled : goal.returns-in_default-2-clause-spelled
returns-in_default-2-clause-spelled g c =
    ap is_some (sym (high_is_none c.args.text.now c.pairs.i c.pairs.bytes.items (omega (arith, c.if-count-text.false)) (omega (arith, c.pairs-test.true, c.if-count-text.false)) (search rules) c.pairs.invariant.read))

pub pairs-preserved : goal.pairs-preserved
pairs-preserved g c = record {
  read =
      subst (HasRead c.args.text.now (c.pairs.i + 1)) (sym c.push_reserved.ensures.items)
      (one_more c.args.text.now c.pairs.i c.pairs.bytes.items c.in-Some-Some.high c.in-Some-Some.low (omega (arith, c.pairs-test.true, c.if-count-text.false)) (search rules) (search rules) c.pairs.invariant.read);
  room = omega (arith, c.push_reserved.ensures.len, c.push_reserved.ensures.capacity, c.pairs.invariant.room, c.pairs-test.true);
}

pub returns-clause-bytes : goal.returns-clause-bytes
returns-clause-bytes g c = λ _. all_read c.args.text.now c.pairs.i c.pairs.bytes.items (omega (arith, c.if-count-text.false)) (omega (arith, c.pairs-test.false, c.if-count-text.false)) c.pairs.invariant.read

pub returns-clause-spelled : goal.returns-clause-spelled
returns-clause-spelled g c = ap is_some (sym (all_read c.args.text.now c.pairs.i c.pairs.bytes.items (omega (arith, c.if-count-text.false)) (omega (arith, c.pairs-test.false, c.if-count-text.false)) c.pairs.invariant.read))
