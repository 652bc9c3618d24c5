use Rattle.std.proofs.Common.{◌≡◌, IsSome, refl, sym, ap, subst, ◌∙◌, Err}
use Rattle.std.proofs.lemmas.Result.{IfOk-weaker, IfErr-weaker, on_ok_weaker}
use Rattle.oct_ops.specs.Operations.{listed}
use Rattle.oct_delta.specs.Taken.{operations_of}
use Rattle.oct_record.specs.Taking.{count_new, IsCutBy, LeavesAt, with_all}
use Rattle.oct_record.proofs.Along.{cut_is_no_version, cut_is_no_refusal, cut_leaves, not_refused, read_list, read_no_error, read_set, text_few}
use Rattle.oct_delta.proofs.Deltas.{text_rising}
use Rattle.oct_delta.specs.declared.error.DeltaFault.TheVariants as delta
use Rattle.std.specs.Option.{is_some}
use Rattle.std.proofs.lemmas.Bool.{false≢true}
use Rattle.oct_record.proofs.taking.take.Goals as goal

pub returns-in-Ok-clause-new : goal.returns-in-Ok-clause-new
returns-in-Ok-clause-new g c =
    IfOk-weaker c.take_each.result (λ n. n ≡ count_new (g.H.Holder.content c.args.holder.now).ops c.in-Ok.ops) (λ n. n ≡ count_new (g.H.Holder.content c.args.holder.now).ops (listed (operations_of c.args.bytes.now)))
    (λ n is. is ∙ ap (count_new (g.H.Holder.content c.args.holder.now).ops) (sym (read_list c.args.bytes.now c.in-Ok.ops c.in-Ok.ensures.ok c.in-Ok.ensures.read))) c.take_each.ensures.new

pub returns-in-Ok-clause-text : goal.returns-in-Ok-clause-text
returns-in-Ok-clause-text g c = on_ok_weaker c.take_each.result (λ _. subst IsSome (sym c.in-Ok.ensures.read) refl) c.take_each.ensures.ok

pub returns-in-Ok-clause-err : goal.returns-in-Ok-clause-err
returns-in-Ok-clause-err g c =
    IfErr-weaker c.take_each.result (IsCutBy (g.H.Holder.content c.args.holder.now) (g.H.Holder.content c.take_each.new.holder) c.in-Ok.ops) (LeavesAt (g.H.Holder.content c.args.holder.now) (g.H.Holder.content c.take_each.new.holder) (listed (operations_of c.args.bytes.now)))
    (λ e cut. cut_leaves (g.H.Holder.content c.args.holder.now) (g.H.Holder.content c.take_each.new.holder) c.in-Ok.ops (listed (operations_of c.args.bytes.now)) (read_list c.args.bytes.now c.in-Ok.ops c.in-Ok.ensures.ok c.in-Ok.ensures.read) e cut)
    c.take_each.ensures.err

pub returns-in-Err-Version-clause-version : goal.returns-in-Err-Version-clause-version
returns-in-Err-Version-clause-version g c = (λ _. c.in-Err-Version.ensures.version.0 (ap Err c.in-Err-Version.field-0-is), λ _. refl)

pub returns-in-Err-Refused-clause-err : goal.returns-in-Err-Refused-clause-err
returns-in-Err-Refused-clause-err g c = refl

pub returns-in-Err-Version-clause-err : goal.returns-in-Err-Version-clause-err
returns-in-Err-Version-clause-err g c = refl

pub returns-in-Ok-clause-ok : goal.returns-in-Ok-clause-ok
returns-in-Ok-clause-ok g c =
    on_ok_weaker c.take_each.result (λ taken. taken ∙ ap (with_all (g.H.Holder.content c.args.holder.now)) (sym (read_set c.args.bytes.now c.in-Ok.ops c.in-Ok.ensures.read))) c.take_each.ensures.ok

pub returns-in-Err-Version-clause-refused : goal.returns-in-Err-Version-clause-refused
returns-in-Err-Version-clause-refused g c =
    let none = c.in-Err-Version.ensures.version.0 (ap Err c.in-Err-Version.field-0-is) in
    not_refused _ (λ so. false≢true (sym (ap is_some none) ∙ so.0))

pub returns-in-Ok-clause-version : goal.returns-in-Ok-clause-version
returns-in-Ok-clause-version g c = (
  λ is. absurd (cut_is_no_version (g.H.Holder.content c.args.holder.now) (g.H.Holder.content c.take_each.new.holder) c.in-Ok.ops c.take_each.result c.take_each.ensures.err is),
  λ none. absurd (read_no_error c.in-Ok.ops delta.Version (c.in-Ok.ensures.version.1 none)),
)

pub returns-in-Ok-clause-refused : goal.returns-in-Ok-clause-refused
returns-in-Ok-clause-refused g c = (
  λ is. absurd (cut_is_no_refusal (g.H.Holder.content c.args.holder.now) (g.H.Holder.content c.take_each.new.holder) c.in-Ok.ops c.take_each.result c.take_each.ensures.err is),
  λ none. absurd (read_no_error c.in-Ok.ops delta.Refused (c.in-Ok.ensures.refused.1 none)),
)

pub returns-in-Err-Version-clause-ok : goal.returns-in-Err-Version-clause-ok
returns-in-Err-Version-clause-ok g c = tt

pub returns-in-Err-Version-clause-new : goal.returns-in-Err-Version-clause-new
returns-in-Err-Version-clause-new g c = tt

pub returns-in-Err-Version-clause-text : goal.returns-in-Err-Version-clause-text
returns-in-Err-Version-clause-text g c = tt

pub returns-in-Err-Refused-clause-ok : goal.returns-in-Err-Refused-clause-ok
returns-in-Err-Refused-clause-ok g c = tt

pub returns-in-Err-Refused-clause-new : goal.returns-in-Err-Refused-clause-new
returns-in-Err-Refused-clause-new g c = tt

pub returns-in-Err-Refused-clause-text : goal.returns-in-Err-Refused-clause-text
returns-in-Err-Refused-clause-text g c = tt

pub take_each-requires-clause-few : goal.take_each-requires-clause-few
take_each-requires-clause-few g c = text_few c.args.bytes.now c.in-Ok.ops c.in-Ok.ensures.ok

pub take_each-requires-clause-rising : goal.take_each-requires-clause-rising
take_each-requires-clause-rising g c = text_rising c.args.bytes.now c.in-Ok.ops c.in-Ok.ensures.ok
