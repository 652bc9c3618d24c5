use Rattle.std.proofs.Common.{arith, sym, ◌∙◌}
use Rattle.std.proofs.lemmas.Grind.{common_steps}
use Rattle.oct_record.proofs.StateTexts.{told, state_saved}
use Rattle.oct_record.proofs.record.Record.save.Goals as goal

pub returns-clause-too_many : goal.returns-clause-too_many
returns-clause-too_many g c = grind (arith, common_steps)

pub returns-clause-err : goal.returns-clause-err
returns-clause-err g c = cc

pub returns-clause-ok : goal.returns-clause-ok
returns-clause-ok g c =
    state_saved c.args.out.now.items c.put_state.new.out.items (record { author = c.self.inside.author; ops = c.self.inside.store }) c.args.self.now c.iter.result
    (told c.put_state.result (sym c.is_err.ensures.value ∙ c.if-is_err.false) c.put_state.ensures.ok) c.iter.ensures c.self.view_is
