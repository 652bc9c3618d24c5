use Rattle.std.proofs.Common.{◌≡◌, not, sym, ap, ◌∙◌}
use Rattle.std.specs.List.{insert}
use Rattle.std.proofs.lemmas.Result.{err_from_is_err_and}
use Rattle.chunked.specs.Chunked.{chunked, index_of}
use Rattle.oct_ops.specs.Operations as set
use Rattle.oct_ops.specs.OrderLaws.{op_cmp_total, op_cmp_exact}
use Rattle.oct_ops.specs.SetLaws.{insert_held}
use Rattle.oct_join.specs.Shared.{content}
use Rattle.oct_join.proofs.Searching.{contains_found, contains_missing, parted, rises_grown, set_grown}
use Rattle.oct_join.proofs.op_set.OpSet.share.Goals as goal

pub search-requires-clause-parted : goal.search-requires-clause-parted
search-requires-clause-parted g c = parted content op_cmp_total op_cmp_exact (chunked c.self.inside.ops) c.as_ref.result.now c.self.invariant.1

-- it is there already
pub returns-in_default-clause-added : goal.returns-in_default-clause-added
returns-in_default-clause-added g c =
    let ops = c.self.inside.ops in
    let x = c.args.op.now.value in
    ap not (sym (sym (ap (λ s. set.contains s x) c.self.view_is) ∙ contains_found content op_cmp_total op_cmp_exact (chunked ops) x c.self.invariant.1 (index_of ops c.in_default.field-0) (rw c.as_ref.ensures at c.in_default.ensures.1)))

pub returns-in_default-clause-ok : goal.returns-in_default-clause-ok
returns-in_default-clause-ok g c =
    let ops = c.self.inside.ops in
    let x = c.args.op.now.value in
    sym (insert_held op_cmp_total op_cmp_exact _ x (sym (ap (λ s. set.contains s x) c.self.view_is) ∙ contains_found content op_cmp_total op_cmp_exact (chunked ops) x c.self.invariant.1 (index_of ops c.in_default.field-0) (rw c.as_ref.ensures at c.in_default.ensures.1)))

pub returns-in_err-place-clause-absent : goal.returns-in_err-place-clause-absent
returns-in_err-place-clause-absent g c =
    let ops = c.self.inside.ops in
    let x = c.args.op.now.value in
    rw (err_from_is_err_and c.from_residual.result c.from_residual.ensures.1).1 (sym (ap (λ s. set.contains s x) c.self.view_is) ∙ contains_missing content op_cmp_total op_cmp_exact (chunked ops) x c.self.invariant.1 (index_of ops c.in-Err.place) (rw c.as_ref.ensures at c.in-Err.ensures.1))

pub returns-in_err-shared-clause-absent : goal.returns-in_err-shared-clause-absent
returns-in_err-shared-clause-absent g c =
    let ops = c.self.inside.ops in
    let x = c.args.op.now.value in
    rw (err_from_is_err_and c.from_residual-in_err-shared.result c.from_residual-in_err-shared.ensures.1).1 (sym (ap (λ s. set.contains s x) c.self.view_is) ∙ contains_missing content op_cmp_total op_cmp_exact (chunked ops) x c.self.invariant.1 (index_of ops c.in-Err.place) (rw c.as_ref.ensures at c.in-Err.ensures.1))

pub returns-clause-added : goal.returns-clause-added
returns-clause-added g c =
    let ops = c.self.inside.ops in
    let x = c.args.op.now.value in
    ap not (sym (sym (ap (λ s. set.contains s x) c.self.view_is) ∙ contains_missing content op_cmp_total op_cmp_exact (chunked ops) x c.self.invariant.1 (index_of ops c.in-Err.place) (rw c.as_ref.ensures at c.in-Err.ensures.1)))

pub invariant_of-self-2 : goal.invariant_of-self-2
invariant_of-self-2 g c =
    let ops = c.self.inside.ops in
    let x = c.args.op.now.value in
    let more : chunked c.insert.new.self ≡ insert (chunked ops) (index_of ops c.in-Err.place) c.new-entry.result =
    c.insert.ensures.items ∙ (λ i. insert (c.in_ok-place.ensures.same i) (c.in_ok-place.ensures.ok.2 i) c.new-entry.result) in
    (c.insert.ensures.chunked, rises_grown content op_cmp_total op_cmp_exact (chunked ops) _ (index_of ops c.in-Err.place) c.new-entry.result x (c.new-entry.ensures ∙ c.in_ok-shared.ensures.cases) c.self.invariant.1 (rw c.as_ref.ensures at c.in-Err.ensures.1) more)

pub returns-clause-ok : goal.returns-clause-ok
returns-clause-ok g c =
    let ops = c.self.inside.ops in
    let x = c.args.op.now.value in
    let more : chunked c.insert.new.self ≡ insert (chunked ops) (index_of ops c.in-Err.place) c.new-entry.result =
    c.insert.ensures.items ∙ (λ i. insert (c.in_ok-place.ensures.same i) (c.in_ok-place.ensures.ok.2 i) c.new-entry.result) in
    set_grown content op_cmp_total op_cmp_exact (chunked ops) _ (index_of ops c.in-Err.place) c.new-entry.result x (c.new-entry.ensures ∙ c.in_ok-shared.ensures.cases) c.self.invariant.1 (rw c.as_ref.ensures at c.in-Err.ensures.1) more ∙ ap (λ s. set.insert s x) c.self.view_is
