use Rattle.oct_verify.proofs.KnownLaws.{known_is, known_one}
use Rattle.oct_verify.proofs.laws.known_length_is_the_greatest.Goals as goal

pub returns : goal.returns
returns c = record { is_one = known_is; is_only = known_one }
