use Rattle.census_fold.proofs.Folding.{folded_is_printed, folded_is_spelled, folded_is_union, refused_is_no_delta}
use Rattle.census_fold.proofs.laws.lines_fold_to_their_union.Goals as goal

pub returns : goal.returns
returns c = record { printed = folded_is_printed; union = folded_is_union; spelled = folded_is_spelled; refused = refused_is_no_delta }
