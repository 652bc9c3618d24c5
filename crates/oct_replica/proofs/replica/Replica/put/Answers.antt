use Rattle.std.proofs.Common.{◌≡◌, false, sym, ap, ◌∙◌, subst}
use Rattle.std.specs.BTreeMap as tree
use Rattle.oct_code.specs.Code.{code_cmp}
use Rattle.oct_ops.specs.Body.{Operation}
use Rattle.oct_ops.specs.Operations.{contains, insert, remove}
use Rattle.oct_ops.specs.OrderLaws.{op_cmp_total, op_cmp_exact}
use Rattle.oct_ops.specs.SetLaws.{insert_held}
use Rattle.oct_record.specs.Content.{RecordContent}
use Rattle.oct_record.proofs.Beside.{is_absent, is_held, remove-insert}
use Rattle.oct_replica.specs.Beside.{AreBeside}
use Rattle.oct_replica.proofs.Beside.{beside_more, own_codes}
use Rattle.oct_replica.proofs.replica.Replica.put.Goals as goal

-- what was put in and is taken out again leaves all as it was
put_and_out : (old shared out : RecordContent) (op seen : Operation) → contains old.ops op ≡ false → shared ≡ record old { ops = insert old.ops op } → seen ≡ op
    → out ≡ record shared { ops = remove shared.ops seen } → out ≡ old
put_and_out old shared out op seen absent put same gone =
    gone ∙ (λ i. record (put i) { ops = remove (put i).ops (same i) }) ∙ ap (λ s. record old { ops = s }) (remove-insert old.ops op absent)

pub file-requires : goal.file-requires
file-requires g c = own_codes c.self.inside.said.ops (tree.get code_cmp c.self.inside.games) c.self.invariant

pub invariant_of-self-then-not-branch : goal.invariant_of-self-then-not-branch
invariant_of-self-then-not-branch g c =
    let old = c.self.inside.said in
    let op = c.args.op.now.value in
    let held = is_held (contains old.ops op) c.in_ok-share.field-0 c.in_ok-share.ensures.added c.if-not-branch.true in
    let same : c.share.new.self.ops ≡ old.ops = ap (λ (r : RecordContent). r.ops) c.in_ok-share.ensures.ok ∙ insert_held op_cmp_total op_cmp_exact old.ops op held in
    subst (λ s. AreBeside s (tree.get code_cmp c.self.inside.games)) (sym same) c.self.invariant

pub invariant_of-self-in-Err : goal.invariant_of-self-in-Err
invariant_of-self-in-Err g c =
    let old = c.self.inside.said in
    let op = c.args.op.now.value in
    let absent = is_absent (contains old.ops op) c.in_ok-share.field-0 c.in_ok-share.ensures.added c.if-not-branch.false in
    let back = put_and_out old c.share.new.self c.remove.new.self op _ absent c.in_ok-share.ensures.ok c.as_ref.ensures c.remove.ensures.gone in
    subst (λ (r : RecordContent). AreBeside r.ops (tree.get code_cmp c.file.new.games)) (sym back) (λ q. c.in-Err.ensures.err q ∙ c.self.invariant q)

pub returns-in-Err-clause-err : goal.returns-in-Err-clause-err
returns-in-Err-clause-err g c =
    let old = c.self.inside.said in
    let op = c.args.op.now.value in
    let absent = is_absent (contains old.ops op) c.in_ok-share.field-0 c.in_ok-share.ensures.added c.if-not-branch.false in
    put_and_out old c.share.new.self c.remove.new.self op _ absent c.in_ok-share.ensures.ok c.as_ref.ensures c.remove.ensures.gone ∙ c.self.view_is

pub invariant_of-self-in_default : goal.invariant_of-self-in_default
invariant_of-self-in_default g c =
    let old = c.self.inside.said in
    let op = c.args.op.now.value in
    subst (λ (r : RecordContent). AreBeside r.ops (tree.get code_cmp c.file.new.games)) (sym c.in_ok-share.ensures.ok)
    (beside_more old.ops (tree.get code_cmp c.self.inside.games) (tree.get code_cmp c.file.new.games) op c.self.invariant c.in_default.ensures.ok)
