use Rattle.census_codes.proofs.Listing.{code_missing, code_there}
use Rattle.census_codes.proofs.reading.read_code.Goals as goal

pub returns-in-Ok-clause-ok : goal.returns-in-Ok-clause-ok
returns-in-Ok-clause-ok c = code_there c.args.line c.args.word.now c.in-Ok.code c.in-Ok.ensures.ok c.in-Ok.ensures.accepted

pub returns-in-Err-clause-err : goal.returns-in-Err-clause-err
returns-in-Err-clause-err c = code_missing c.args.line c.args.word.now c.in-Err.cause c.in-Err.ensures.fault
