use Rattle.oct_sync.proofs.Exchange.{each_holds_all, each_is_answered, each_takes_missing}
use Rattle.oct_sync.proofs.laws.both_sides_hold_all.Goals as goal

pub returns-clause-missing : goal.returns-clause-missing
returns-clause-missing c = each_takes_missing

pub returns-clause-all : goal.returns-clause-all
returns-clause-all c = each_holds_all

pub returns-clause-answered : goal.returns-clause-answered
returns-clause-answered c = each_is_answered
