use Rattle.std.proofs.lemmas.Result.{IfErr-weaker}
use Rattle.census_core.proofs.command.perform_kept.Goals as goal

pub returns-in-Extend-clause-stands : goal.returns-in-Extend-clause-stands
returns-in-Extend-clause-stands g c = rw c.in-Extend.is (rw c.deref-in-Extend.ensures.value at c.give_turns.ensures.stands)

pub returns-in-Survey-clause-stands : goal.returns-in-Survey-clause-stands
returns-in-Survey-clause-stands g c = rw c.in-Survey.is (rw c.deref-in-Survey.ensures.value at c.give_turns-in-Survey.ensures.stands)

pub returns-in-Value-clause-err : goal.returns-in-Value-clause-err
returns-in-Value-clause-err g c =
    rw c.in-Value.is (IfErr-weaker c.answer.result _ _ (λ e done other own. done other) (rw (c.deref-in-Value.ensures.value, c.deref-in-Value-2.ensures.value) at c.answer.ensures.err))

pub returns-in-Move-clause-ok : goal.returns-in-Move-clause-ok
returns-in-Move-clause-ok g c = rw c.in-Move.is (rw (c.deref-in-Move.ensures.value, c.deref-in-Move-2.ensures.value) at c.answer-in-Move.ensures.ok)

pub returns-in-Move-clause-err : goal.returns-in-Move-clause-err
returns-in-Move-clause-err g c =
    rw c.in-Move.is (IfErr-weaker c.answer-in-Move.result _ _ (λ e done other own. done other) (rw (c.deref-in-Move.ensures.value, c.deref-in-Move-2.ensures.value) at c.answer-in-Move.ensures.err))

pub returns-in-Bfile-clause-err : goal.returns-in-Bfile-clause-err
returns-in-Bfile-clause-err g c =
    rw c.in-Bfile.is (IfErr-weaker c.answer-in-Bfile.result _ _ (λ e done other own. done other) (rw c.deref-in-Bfile.ensures.value at c.answer-in-Bfile.ensures.err))

pub returns-in-Plot-clause-err : goal.returns-in-Plot-clause-err
returns-in-Plot-clause-err g c =
    rw c.in-Plot.is (IfErr-weaker c.answer-in-Plot.result _ _ (λ e done other own. done other) (rw c.deref-in-Plot.ensures.value at c.answer-in-Plot.ensures.err))
