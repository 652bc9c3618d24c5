use Rattle.oct_replica.proofs.Headline as headline
use Rattle.oct_replica.proofs.laws.same_operations_same_bytes.Goals as goal

pub returns : goal.returns
returns c = record {
  union = headline.union_is_printed;
  spelled = headline.spelled_is_printed;
  same = headline.same_is_printed;
  values = headline.shown_values_are_nim_values;
  mex = headline.nim_values_are_the_sequence;
  blocks = headline.refuted_at_first_wrong;
  claims = headline.refuted_at_first_break;
  periods = headline.proved_periods_hold;
}
