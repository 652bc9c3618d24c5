use Rattle.std.proofs.Common.{◌≡◌, false, refl, ◌+◌, ◌<◌, vec_len, IfSome, Option, inl, inr, map, take, length, slice_index, sym, subst, subst₂, ◌∙◌, arith}
use Rattle.std.proofs.lemmas.Bool.{cases_eq}
use Rattle.oct_mex.specs.Marks.{IsTableFor}
use Rattle.oct_mex.specs.NimValues.{nim_value}
use Rattle.oct_mex.specs.Rare.{is_rare, AreBeside}
use Rattle.oct_mex.specs.Windows.{IsSettled, Settles}
use Rattle.oct_search.specs.BySets.{ServeFor}
use Rattle.oct_sets.specs.Sets.{reach_of}
use Rattle.oct_search.proofs.BySets.{serve_if}
use Rattle.oct_search.proofs.Certificates.{common, head_beside, head_table, settled_by}
use Rattle.oct_search.proofs.certificate.are_settled.Goals as goal
use Rattle.oct_search.proofs.certificate.are_settled.Goals.{else-not-is_told-via-then-not-is_told+else-is_none, else-not-is_told-via-else-not-is_told, in-Some, in_default}

pub settled_value-requires-clause-beside : goal.settled_value-requires-clause-beside
settled_value-requires-clause-beside g c =
    let row = c.args.row.now in
    let number = g.T.Cell.number in
    subst (λ xs. AreBeside (map number (take c.loop-heap.heap xs)) row.rare.heaps.items (map number row.rare.values.items)) (sym c.deref.ensures.value)
    (head_beside number c.args.code.now row c.args.reach c.requires.row c.requires.some c.requires.few c.loop-heap.heap (omega arith) (omega arith))

pub settled_value-requires-clause-table : goal.settled_value-requires-clause-table
settled_value-requires-clause-table g c =
    let row = c.args.row.now in
    let number = g.T.Cell.number in
    subst₂ (λ xs size. IsTableFor (map number (take c.loop-heap.heap xs)) size) (sym c.deref.ensures.value) (sym (c.loop-heap.invariant.size ∙ c.requires.marks))
    (head_table number c.args.code.now row c.args.reach c.requires.row c.requires.some c.requires.few c.loop-heap.heap (omega arith) (omega arith))

pub loop-heap-init : goal.loop-heap-init
loop-heap-init g c = record {
  size = refl;
  serve = serve_if c.args.code.now c.args.row.now c.args.start c.behind-sets.result c.behind-sets.ensures.right c.behind-sets.ensures.mask c.behind-sets.ensures.wide c.behind-sets.ensures.most;
  settled = λ n high low. absurd (omega arith);
}

pub go_on-requires-clause-wide : goal.go_on-requires-clause-wide
go_on-requires-clause-wide g c =
    let serve : ServeFor c.args.code.now c.args.row.now c.loop-heap.heap c.in-Some.sets =
    subst (λ (o : Option _). IfSome o (ServeFor c.args.code.now c.args.row.now c.loop-heap.heap)) c.in-Some.is c.loop-heap.invariant.serve in
    serve.wide

pub go_on-requires-clause-right : goal.go_on-requires-clause-right
go_on-requires-clause-right g c =
    let serve : ServeFor c.args.code.now c.args.row.now c.loop-heap.heap c.in-Some.sets =
    subst (λ (o : Option _). IfSome o (ServeFor c.args.code.now c.args.row.now c.loop-heap.heap)) c.in-Some.is c.loop-heap.invariant.serve in
    serve.right

pub go_on-requires-clause-common : goal.go_on-requires-clause-common
go_on-requires-clause-common g c far =
    let row = c.args.row.now in
    let code = c.args.code.now in
    let heap = c.loop-heap.heap in
    let serve : ServeFor code row heap c.in-Some.sets = subst (λ (o : Option _). IfSome o (ServeFor code row heap)) c.in-Some.is c.loop-heap.invariant.serve in
    subst (λ mask. is_rare mask heap (nim_value code heap) ≡ false) (sym serve.mask)
    (common g.T.Cell.number code row (reach_of c.in-Some.sets.sets) c.requires.row c.requires.some serve.most heap far (omega (arith, c.loop-heap-test.true, c.len-heap-end.ensures)))

pub loop-heap-preserved : goal.loop-heap-preserved
loop-heap-preserved g c =
    let row = c.args.row.now in
    let number = g.T.Cell.number in
    let heap = c.loop-heap.heap in
    let kept = c.loop-heap.invariant in
    let low : heap < vec_len row.values = omega (arith, c.loop-heap-test.true, c.len-heap-end.ensures) in
    let here : IsSettled c.args.code.now row.rare.mask c.args.reach heap = elim c.else-not-is_told.branch [
      | else-not-is_told-via-then-not-is_told+else-is_none w ↦
          let found = w.settled_value.result in
          settled_by number c.args.code.now row c.args.reach c.requires.row c.requires.some c.requires.few heap (omega arith) low found w.if-is_none.ensures w.settled_value.ensures.common
          (subst₂ (λ xs size. IfSome found (Settles c.args.code.now (slice_index (map number (take heap xs))) (length (take heap xs)) row.rare.heaps.items c.args.reach size)) w.deref.ensures.value
          (kept.size ∙ c.requires.marks) w.settled_value.ensures.settles)
      | else-not-is_told-via-else-not-is_told w ↦ c.is_told.ensures w.if-not-is_told.false
    ] in
    record {
      size = c.else-not-is_told.auto.marks ∙ kept.size;
      serve = elim c.match-sets-3.branch [
        | in-Some w ↦
            let by = w.in-Some.sets in
            let old : ServeFor c.args.code.now row heap by = subst (λ (o : Option _). IfSome o (ServeFor c.args.code.now row heap)) w.in-Some.is kept.serve in
            subst (λ (o : Option _). IfSome o (ServeFor c.args.code.now row (heap + 1))) (sym w.sets-is) (record {
              right = w.go_on.ensures.right;
              mask = w.go_on.ensures.mask ∙ old.mask;
              wide = omega (arith, w.go_on.ensures.wide, old.wide);
              most = λ h listed. omega (arith, w.go_on.ensures.reach, old.most h listed);
            })
        | in_default w ↦ subst (λ (o : Option _). IfSome o (ServeFor c.args.code.now row (heap + 1))) (sym (w.sets-is ∙ w.in_default.is)) tt
      ];
      settled = λ n high less. elim (cases_eq n heap) [
        | inl e ↦ subst (IsSettled c.args.code.now row.rare.mask c.args.reach) (sym e) here
        | inr other ↦ kept.settled n high (omega arith)
      ];
    }

pub returns-clause-settled : goal.returns-clause-settled
returns-clause-settled g c is n high low = c.loop-heap.invariant.settled n high (omega arith)
