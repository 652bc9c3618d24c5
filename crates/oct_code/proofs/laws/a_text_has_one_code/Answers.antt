use Rattle.oct_code.proofs.CodeLaws.{text_has_one_code}
use Rattle.oct_code.proofs.laws.a_text_has_one_code.Goals as goal

pub returns : goal.returns
returns c = text_has_one_code
