use Rattle.std.proofs.Common.{arith, rules}
use Rattle.oct_mex.proofs.values.Values.look_for_period.Goals as goal

pub invariant_of-self : goal.invariant_of-self
invariant_of-self g c =
    let kept = c.self.invariant in
    record {
      few = kept.few;
      row = kept.row;
      within = kept.within;
      reserved = kept.reserved;
      few_used = kept.few_used;
      table = kept.table;
      limited = kept.limited;
      periodic = search rules;
      tables = λ none. kept.tables (omega arith);
      narrow = kept.narrow;
      fewer = kept.fewer;
    }
