use Rattle.std.proofs.Common.{subst}
use Rattle.std.specs.Io.KnownBytes.{Appends}
use Rattle.std.proofs.lemmas.Result.{err_from_is_err_and}
use Rattle.written.specs.Output.{AppendsPrefix}
use Rattle.oct_sync.proofs.Running.{completed, Breaks-at_last}
use Rattle.oct_sync.proofs.driver.drive.Goals as goal

pub returns-clause-ok : goal.returns-clause-ok
returns-clause-ok g c =
    completed _ _ _ _ _ _ _ _ _ c.in_ok-owed.ensures.ok
    (subst (λ z. Appends (g.W.Write.contents c.converse.new.writer) (g.W.Write.contents c.write_out.new.writer) z) c.deref.ensures.value c.in_ok-write_out.ensures.ok)

pub returns-in_err-write_out-clause-err : goal.returns-in_err-write_out-clause-err
returns-in_err-write_out-clause-err g c =
    let p = err_from_is_err_and c.from_residual-in_err-write_out.result c.from_residual-in_err-write_out.ensures.1 in
    rw (p.1, p.2) (λ _. Breaks-at_last _ _ _ _ _ _ _ _ _ c.in_ok-owed.ensures.ok
    (subst (λ z. AppendsPrefix (g.W.Write.contents c.converse.new.writer) (g.W.Write.contents c.write_out.new.writer) z) c.deref.ensures.value c.in_err-write_out.ensures.err))
