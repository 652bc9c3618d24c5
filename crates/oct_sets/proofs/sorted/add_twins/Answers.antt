use Rattle.std.proofs.Common.{◌≡◌, ◌≤◌, ◌<◌, ◌++◌, ◌∷◌, [], map, slice_index, inl, inr, length, subst, sym, arith, true, ◌∙◌}
use Rattle.std.proofs.lemmas.List.Elements.{Contains-append_left, Contains-get_or, Contains-push_cases}
use Rattle.std.specs.List.{Contains}
use Rattle.oct_mex.proofs.Cells.{as_many}
use Rattle.oct_sets.specs.Plans.{IsAmong}
use Rattle.oct_sets.specs.declared.sorted.SmallHeap.{SmallHeap}
use Rattle.oct_sets.proofs.sorted.add_twins.Goals as goal

pub number_at-value-requires : goal.number_at-value-requires
number_at-value-requires g c = (c.requires.within (slice_index c.args.heaps.now c.loop-heap.heap-index) (Contains-get_or c.args.heaps.now c.loop-heap.heap-index 0 c.loop-heap-test.true)).1

pub loop-heap-preserved : goal.loop-heap-preserved
loop-heap-preserved g c =
    let small = map g.T.Cell.number c.args.small.now in
    let many = as_many g.T.Cell.number c.args.small.now in
    let heaps = c.args.heaps.now in
    let k = c.loop-heap.heap-index in
    let heap = slice_index heaps k in
    let old = c.loop-heap.list.items in
    let is = c.loop-heap.invariant in
    let listed = Contains-get_or heaps k 0 c.loop-heap-test.true in
    let held = c.requires.within heap listed in
    let new : SmallHeap = record { place = c.place_of.result; value = c.number_at-value.result; heap = heap; twin = true } in
    let more : c.push.new.self.items ≡ old ++ new ∷ [] = c.in_ok-push.ensures.items in
    record {
      each = λ apart all twins h has. elim (Contains-push_cases old new h (subst (λ xs. Contains xs h) more has)) [
        | inl was ↦ is.each apart all twins h was
        | inr e ↦
            let t = twins heap listed in
            subst (IsAmong small apart) e (record {
              some = omega (arith, held.0);
              few = omega (arith, held.1, many);
              value = c.number_at-value.ensures;
              twin = λ yes. (held.0, omega (arith, t.0, many), c.number_at-value.ensures ∙ sym t.1);
            })
      ];
      keeps = λ h was. subst (λ xs. Contains xs h) (sym more) (Contains-append_left old (new ∷ []) h (is.keeps h was));
    }
