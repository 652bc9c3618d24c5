use Rattle.std.proofs.Common.{◌-◌, vec_len}
use Rattle.std.specs.Result.{is_ok}
use Rattle.oct_mex.proofs.Tables.{remade}
use Rattle.oct_mex.proofs.totals.remake.Goals as goal

pub returns-clause-unmarked : goal.returns-clause-unmarked
returns-clause-unmarked g c = remade (is_ok c.resize.result) c.args.size (c.args.size - vec_len c.clear.new.self) c.clear.new.self.items c.resize.new.self.items c.clear.ensures.items c.resize.ensures.items
