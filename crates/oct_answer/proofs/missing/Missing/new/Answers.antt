use Rattle.oct_answer.proofs.Leaving.{all_left}
use Rattle.oct_answer.proofs.missing.Missing.new.Goals as goal

pub returns : goal.returns
returns g c = all_left c.args.snapshot.value c.args.clock
