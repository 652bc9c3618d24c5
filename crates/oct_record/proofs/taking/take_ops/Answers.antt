use Rattle.std.proofs.Common.{◌≡◌, ℕ, List, take, ap, ◌∙◌, subst}
use Rattle.oct_ops.specs.Body.{Operation}
use Rattle.oct_ops.specs.Operations.{set_of, union}
use Rattle.oct_record.specs.Content.{RecordContent}
use Rattle.oct_record.specs.Taking.{IsCutBy}
use Rattle.oct_record.specs.declared.error.TakeError.{TakeError}
use Rattle.oct_record.specs.declared.error.TakeError.TheVariants.{Version, Refused, OutOfMemory}
use Rattle.oct_record.proofs.taking.take_ops.Goals as goal

first_in : (old new : RecordContent) (list : List Operation) (e : TakeError) → IsCutBy old new list e → (count : ℕ) × (new.ops ≡ union old.ops (set_of (take count list)))
first_in old new list Version cut = absurd cut
first_in old new list Refused cut = absurd cut
first_in old new list (OutOfMemory done) cut = (done, ap (λ (r : RecordContent). r.ops) cut.held)

author_stays : (old new : RecordContent) (list : List Operation) (e : TakeError) → IsCutBy old new list e → new.author ≡ old.author
author_stays old new list Version cut = absurd cut
author_stays old new list Refused cut = absurd cut
author_stays old new list (OutOfMemory done) cut = ap (λ (r : RecordContent). r.author) cut.held

pub returns-in-Ok-clause-ok : goal.returns-in-Ok-clause-ok
returns-in-Ok-clause-ok g c =
    ap (λ (r : RecordContent). r.ops) c.in-Ok.ensures.ok
    ∙ ap (λ xs. union (g.H.Holder.content c.args.holder.now).ops (set_of xs)) (c.of_rising-list.ensures ∙ ap (λ v. v.items) c.replace.ensures.value)

pub returns-in-Ok-clause-author : goal.returns-in-Ok-clause-author
returns-in-Ok-clause-author g c = ap (λ (r : RecordContent). r.author) c.in-Ok.ensures.ok

pub returns-in-Err-clause-err : goal.returns-in-Err-clause-err
returns-in-Err-clause-err g c =
    first_in (g.H.Holder.content c.args.holder.now) (g.H.Holder.content c.take_list.new.holder) c.args.ops.now.items c.in-Err.field-0
    (subst (λ xs. IsCutBy (g.H.Holder.content c.args.holder.now) (g.H.Holder.content c.take_list.new.holder) xs c.in-Err.field-0) (c.of_rising-list.ensures ∙ ap (λ v. v.items) c.replace.ensures.value) c.in-Err.ensures.err)

pub returns-in-Err-clause-author : goal.returns-in-Err-clause-author
returns-in-Err-clause-author g c = author_stays (g.H.Holder.content c.args.holder.now) (g.H.Holder.content c.take_list.new.holder) c.of_rising-list.result c.in-Err.field-0 c.in-Err.ensures.err
