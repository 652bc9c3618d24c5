use Rattle.census_state.proofs.CodeTexts.{parsed}
use Rattle.census_state.proofs.codes.read_code.Goals as goal

pub returns : goal.returns
returns c = parsed c.args.word.now c.parse.result c.parse.ensures.ok c.parse.ensures.accepted c.parse.ensures.fault
