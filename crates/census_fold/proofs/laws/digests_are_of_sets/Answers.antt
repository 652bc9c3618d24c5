use Rattle.census_fold.proofs.Digested.{digest_is_of_set, text_is_of_one_set}
use Rattle.census_fold.proofs.laws.digests_are_of_sets.Goals as goal

pub returns : goal.returns
returns c = record {
  digest = digest_is_of_set c.texts_are_read.ensures;
  text = text_is_of_one_set c.a_text_has_one_list.ensures c.what_is_written_is_a_text.ensures;
}
