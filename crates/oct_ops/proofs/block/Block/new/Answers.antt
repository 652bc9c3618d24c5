use Rattle.std.proofs.Common.{◌≡◌, ◌==◌, ap, arith, length, subst, sym, vec_len, ◌∙◌}
use Rattle.std.proofs.lemmas.Grind.{common_steps}
use Rattle.oct_ops.specs.Operation.{claimed}
use Rattle.oct_ops.specs.Valid.{IsBlock}
use Rattle.oct_ops.proofs.Faultless.{block_faultless}
use Rattle.oct_ops.proofs.block.Block.new.Goals as goal

pub returns-clause-ok : goal.returns-clause-ok
returns-clause-ok g c = ap (claimed c.args.code c.args.start) c.new.ensures

pub returns-clause-fault : goal.returns-clause-fault
returns-clause-fault g c = tt

pub returns-clause-back : goal.returns-clause-back
returns-clause-back g c = tt

pub returns-clause-accepted : goal.returns-clause-accepted
returns-clause-accepted g c =
    let len : length c.args.values.items ≡ vec_len c.args.values = omega arith in
    block_faultless (claimed c.args.code c.args.start c.args.values.items) (ap (λ n. n == 0) len ∙ sym c.if-is_empty.ensures) (omega arith) (omega arith)

pub invariant_of-result : goal.invariant_of-result
invariant_of-result g c =
    subst IsBlock (sym (ap (claimed c.args.code c.args.start) c.new.ensures)) (record {
      code = c.len-3.ensures.valid;
      faultless = returns-clause-accepted g c;
      values = λ i d below. omega arith;
    })

pub returns-then-len-gt-MAX_ITEMS-clause-fault : goal.returns-then-len-gt-MAX_ITEMS-clause-fault
returns-then-len-gt-MAX_ITEMS-clause-fault g c = grind (arith, common_steps)
