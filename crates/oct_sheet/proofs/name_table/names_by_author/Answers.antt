use Rattle.std.proofs.Common.{arith}
use Rattle.std.proofs.lemmas.Grind.{common_steps}
use Rattle.oct_sheet.proofs.name_table.names_by_author.Goals as goal

pub loop-op-preserved : goal.loop-op-preserved
loop-op-preserved g c = record {
  names = λ author. grind (arith, common_steps, c.loop-op.invariant.names author, c.in_ok-put.ensures.ok author);
  ascii = c.in_ok-put.ensures.ascii c.loop-op.invariant.ascii;
}
