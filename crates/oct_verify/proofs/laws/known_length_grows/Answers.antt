use Rattle.oct_verify.proofs.KnownLaws.{known_grows}
use Rattle.oct_verify.proofs.laws.known_length_grows.Goals as goal

pub returns : goal.returns
returns c = known_grows
