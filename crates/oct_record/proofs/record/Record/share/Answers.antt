use Rattle.std.proofs.Common.{◌≡◌, sym, ap, ◌∙◌, subst}
use Rattle.std.specs.BTreeMap as tree
use Rattle.oct_code.specs.Code.{code_cmp}
use Rattle.oct_ops.specs.Operations as set
use Rattle.oct_ops.specs.Operations.{Operations}
use Rattle.oct_ops.specs.SetLaws.{insert_held}
use Rattle.oct_ops.specs.OrderLaws.{op_cmp_total, op_cmp_exact}
use Rattle.oct_record.specs.Index.{AreBeside}
use Rattle.oct_record.proofs.Beside.{beside_more, beside_same, is_absent, is_held, remove-insert}
use Rattle.oct_record.proofs.record.Record.share.Goals as goal

pub invariant_of-self-then-not-branch : goal.invariant_of-self-then-not-branch
invariant_of-self-then-not-branch g c =
    let store = c.self.inside.store in
    let held = is_held (set.contains store c.args.op.now.value) c.in_ok-share.field-0 c.in_ok-share.ensures.added c.if-not-branch.true in
    let same : c.share.new.self ≡ store = c.in_ok-share.ensures.ok ∙ insert_held op_cmp_total op_cmp_exact store c.args.op.now.value held in
    record {
      author = c.self.invariant.author;
      beside = subst (λ (s : Operations). AreBeside s (tree.get code_cmp c.self.inside.games) c.self.inside.notes) (sym same) c.self.invariant.beside;
      filled = c.self.invariant.filled;
    }

-- what was put in is taken out again
pub invariant_of-self-in-Err : goal.invariant_of-self-in-Err
invariant_of-self-in-Err g c =
    let store = c.self.inside.store in
    let op = c.args.op.now.value in
    let absent = is_absent (set.contains store op) c.in_ok-share.field-0 c.in_ok-share.ensures.added c.if-not-branch.false in
    let back : c.remove.new.self ≡ store =
    c.remove.ensures.gone ∙ ap (set.remove c.share.new.self) c.as_ref.ensures
    ∙ ap (λ s. set.remove s op) c.in_ok-share.ensures.ok ∙ remove-insert store op absent in
    record {
      author = c.self.invariant.author;
      beside =
          subst (λ (s : Operations). AreBeside s (tree.get code_cmp c.file.new.games) c.file.new.notes) (sym back)
          (beside_same store (tree.get code_cmp c.self.inside.games) (tree.get code_cmp c.file.new.games) c.self.inside.notes c.file.new.notes c.self.invariant.beside c.in-Err.ensures.same_games c.in-Err.ensures.same_notes);
      filled = c.in-Err.ensures.filled c.self.invariant.filled;
    }

pub returns-in-Err-clause-err : goal.returns-in-Err-clause-err
returns-in-Err-clause-err g c =
    let store = c.self.inside.store in
    let op = c.args.op.now.value in
    let absent = is_absent (set.contains store op) c.in_ok-share.field-0 c.in_ok-share.ensures.added c.if-not-branch.false in
    let back : c.remove.new.self ≡ store =
    c.remove.ensures.gone ∙ ap (set.remove c.share.new.self) c.as_ref.ensures
    ∙ ap (λ s. set.remove s op) c.in_ok-share.ensures.ok ∙ remove-insert store op absent in
    ap (λ (s : Operations). record { author = c.self.inside.author; ops = s }) back ∙ c.self.view_is

pub invariant_of-self-in_default : goal.invariant_of-self-in_default
invariant_of-self-in_default g c =
    let store = c.self.inside.store in
    let op = c.args.op.now.value in
    record {
      author = c.self.invariant.author;
      beside =
          subst (λ (s : Operations). AreBeside s (tree.get code_cmp c.file.new.games) c.file.new.notes) (sym c.in_ok-share.ensures.ok)
          (beside_more store (tree.get code_cmp c.self.inside.games) (tree.get code_cmp c.file.new.games) c.self.inside.notes c.file.new.notes op c.self.invariant.beside c.in_default.ensures.games c.in_default.ensures.notes);
      filled = c.in_default.ensures.filled c.self.invariant.filled;
    }
