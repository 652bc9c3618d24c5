use Rattle.oct_code.proofs.CodeLaws.{faultless_are_codes}
use Rattle.oct_code.proofs.laws.faultless_digits_are_codes.Goals as goal

pub returns : goal.returns
returns c = faultless_are_codes
