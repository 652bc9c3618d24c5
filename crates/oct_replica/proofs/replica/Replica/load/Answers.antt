use Rattle.std.proofs.Common.{sym, ap, subst, ◌∙◌}
use Rattle.oct_ops.specs.Operations.{empty, set_of}
use Rattle.oct_ops.specs.OrderLaws.{op_cmp_total, op_cmp_exact}
use Rattle.oct_ops.specs.SetLaws.{union-empty, union_comm}
use Rattle.oct_delta.specs.State.{IsState}
use Rattle.oct_record.specs.Content.{RecordContent}
use Rattle.oct_record.specs.Taking.{with_all}
use Rattle.oct_replica.proofs.replica.Replica.load.Goals as goal

pub returns-in-Ok-take_each-clause-ok : goal.returns-in-Ok-take_each-clause-ok
returns-in-Ok-take_each-clause-ok g c =
    let all = set_of c.in_ok-author.ops in
    let is =
    c.in-Ok-take_each.ensures.ok
    ∙ ap (λ (r : RecordContent). with_all r all) c.in-Ok.ensures.ok
    ∙ ap (λ s. record { author = c.in_ok-author.author; ops = s }) (union_comm op_cmp_total op_cmp_exact empty all ∙ union-empty op_cmp_total op_cmp_exact all) in
    subst (λ (r : RecordContent). IsState c.args.bytes.now r.author r.ops) (sym is) c.in_ok-author.ensures.ok

pub returns-in-Err-clause-err : goal.returns-in-Err-clause-err
returns-in-Err-clause-err g c = (c.in_ok-author.author, set_of c.in_ok-author.ops, c.in_ok-author.ensures.ok)
