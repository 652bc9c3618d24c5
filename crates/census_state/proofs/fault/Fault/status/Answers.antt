use Rattle.std.proofs.Common.{sym, ap}
use Rattle.census_state.specs.Statuses.{status_of}
use Rattle.census_state.proofs.fault.Fault.status.Goals as goal

pub returns-in-OutOfMemory : goal.returns-in-OutOfMemory
returns-in-OutOfMemory c = sym (ap status_of c.in-OutOfMemory.is)
