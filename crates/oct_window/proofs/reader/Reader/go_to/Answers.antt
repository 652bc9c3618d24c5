use Rattle.std.proofs.Common.{◌∙◌, arith}
use Rattle.std.proofs.lemmas.Grind.{common_steps}
use Rattle.oct_window.proofs.reader.Reader.go_to.Goals as goal

pub returns-then-is_none-clause-right : goal.returns-then-is_none-clause-right
returns-then-is_none-clause-right g c code right = c.next.ensures.right code (c.loop.invariant.right code right) (c.loop.invariant.sets code right)

pub loop-preserved : goal.loop-preserved
loop-preserved g c = record {
  step = c.next.ensures.step;
  same = record { code = c.next.ensures.same.code ∙ c.loop.invariant.same.code; mask = c.next.ensures.same.mask ∙ c.loop.invariant.same.mask; reach = c.next.ensures.same.reach ∙ c.loop.invariant.same.reach };
  heap = grind (arith, common_steps);
  more = omega arith;
  most = omega arith;
  of = c.next.ensures.of;
  right = λ code right. c.next.ensures.right code (c.loop.invariant.right code right) (c.loop.invariant.sets code right);
  sets = λ code right. c.next.ensures.sets code (c.loop.invariant.right code right) (c.loop.invariant.sets code right);
}
