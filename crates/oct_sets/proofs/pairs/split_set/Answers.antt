use Rattle.std.proofs.Common.{map, subst, sym}
use Rattle.bitsets.specs.Sets.{Adds, Has}
use Rattle.bitsets.proofs.Bits.{has_or}
use Rattle.oct_sets.proofs.Words.{before_more}
use Rattle.oct_sets.proofs.pairs.split_set.Goals as goal

pub loop-removed-preserved : goal.loop-removed-preserved
loop-removed-preserved g c = record {
  set = λ v. let number = g.W.Word.number in before_more c.args.splits.now (map g.T.Cell.number c.args.values.now) c.args.place c.loop-removed.removed-index (number c.loop-removed.set) (number c.united-set.result) (number c.one.result) c.number_at.result
      (subst (λ w. Adds (number c.loop-removed.set) w (Has (number c.one.result))) (sym c.united-set.ensures) (has_or (number c.loop-removed.set) (number c.one.result))) c.one.ensures c.number_at.ensures c.loop-removed.invariant.set v;
}
