use Rattle.std.proofs.Common.{arith, ◌∙◌}
use Rattle.std.proofs.lemmas.List.{length-set}
use Rattle.std.proofs.lemmas.List.Elements.{All-set, AllWithin-more_set}
use Rattle.oct_mex.specs.Totals.{IsLong, IsTable}
use Rattle.oct_mex.proofs.totals.fit_tables.Goals as goal

pub returns-then-not-fit-clause-kept : goal.returns-then-not-fit-clause-kept
returns-then-not-fit-clause-kept g c = λ mask all kept.
    let now = c.loop-at.invariant.kept mask all kept in
    All-set (IsTable mask all) c.loop-at.tables c.loop-at.at c.fit.new.self
    (c.fit.ensures.kept mask all (now c.loop-at.at c.index-tables-at.result (omega arith))) now

pub loop-at-preserved : goal.loop-at-preserved
loop-at-preserved g c = record {
  count = length-set c.loop-at.tables c.loop-at.at c.fit.new.self ∙ c.loop-at.invariant.count;
  kept = λ mask all kept.
      let now = c.loop-at.invariant.kept mask all kept in
      All-set (IsTable mask all) c.loop-at.tables c.loop-at.at c.fit.new.self
      (c.fit.ensures.kept mask all (now c.loop-at.at c.index-tables-at.result (omega arith))) now;
  long = AllWithin-more_set c.loop-at.tables c.loop-at.at c.fit.new.self (omega arith) (IsLong c.args.size) c.loop-at.invariant.long (c.fit.ensures.long c.if-not-fit.false);
}

pub returns-clause-long : goal.returns-clause-long
returns-clause-long g c = λ t k d low. c.loop-at.invariant.long k d (omega arith) (omega arith)
