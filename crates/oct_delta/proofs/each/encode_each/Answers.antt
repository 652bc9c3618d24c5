use Rattle.std.proofs.Common.{sym, ◌∙◌}
use Rattle.oct_delta.proofs.Written.{written}
use Rattle.oct_delta.proofs.each.encode_each.Goals as goal

pub returns-clause-ok : goal.returns-clause-ok
returns-clause-ok g c = written c.put_set.result _ (sym c.is_err.ensures.value ∙ c.if-is_err.false) c.put_set.ensures.ok
