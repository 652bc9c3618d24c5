use Rattle.std.proofs.Common.{◌≡◌, ◌≤◌, ◌++◌, ◌∷◌, [], map, slice_index, inl, inr, length, refl, subst, sym, arith, ◌<◌, false}
use Rattle.std.proofs.lemmas.Bool.{cases_lt, false≢true}
use Rattle.std.proofs.lemmas.List.Elements.{Contains-append_left, Contains-get_or, Contains-push, Contains-push_cases}
use Rattle.std.specs.List.{Contains}
use Rattle.oct_mex.proofs.Cells.{as_many}
use Rattle.oct_sets.specs.Plans.{HasHeap, IsAmong}
use Rattle.oct_sets.specs.declared.sorted.SmallHeap.{SmallHeap}
use Rattle.oct_sets.proofs.Growing.{add_has}
use Rattle.oct_sets.proofs.sorted.add.Goals.{then-heap-gt0+in_ok-push, else-heap-gt0}
use Rattle.oct_sets.proofs.sorted.add.Goals as goal

pub number_at-value-requires : goal.number_at-value-requires
number_at-value-requires g c = c.requires.within (slice_index c.args.heaps.now c.loop-heap.heap-index) (Contains-get_or c.args.heaps.now c.loop-heap.heap-index 0 c.loop-heap-test.true)

pub loop-heap-preserved : goal.loop-heap-preserved
loop-heap-preserved g c =
    let small = map g.T.Cell.number c.args.small.now in
    let heaps = c.args.heaps.now in
    let k = c.loop-heap.heap-index in
    let heap = slice_index heaps k in
    let old = c.loop-heap.list.items in
    let is = c.loop-heap.invariant in
    let held = c.requires.within heap (Contains-get_or heaps k 0 c.loop-heap-test.true) in
    let few : heap < length small = omega (arith, held, as_many g.T.Cell.number c.args.small.now) in
    elim c.if-heap-gt0.branch [
      | then-heap-gt0+in_ok-push w ↦
          let new : SmallHeap = record { place = w.place_of.result; value = w.number_at-value.result; heap = heap; twin = false } in
          let more : w.push.new.self.items ≡ old ++ new ∷ [] = w.in_ok-push.ensures.items in
          let kept : (h : SmallHeap) → Contains old h → Contains w.push.new.self.items h = λ h was. subst (λ xs. Contains xs h) (sym more) (Contains-append_left old (new ∷ []) h was) in
          rw w.list-is (record {
            each = λ apart all h has. elim (Contains-push_cases old new h (subst (λ xs. Contains xs h) more has)) [
              | inl was ↦ is.each apart all h was
              | inr e ↦ subst (IsAmong small apart) e (record { some = w.if-heap-gt0.true; few = few; value = w.number_at-value.ensures; twin = λ yes. absurd (false≢true yes) })
            ];
            keeps = λ h was. kept h (is.keeps h was);
            has = λ i low some. elim (cases_lt i k) [
              | inl less ↦ let was = is.has i less some in record { small = was.small; in_list = kept was.small was.in_list; heap = was.heap; value = was.value }
              | inr last ↦
                  let e : k ≡ i = omega (arith, low, last) in
                  subst (λ j. HasHeap w.push.new.self.items (slice_index heaps j) (slice_index small (slice_index heaps j))) e
                  (record { small = new; in_list = subst (λ xs. Contains xs new) (sym more) (Contains-push old new); heap = refl; value = w.number_at-value.ensures })
            ];
          })
      | else-heap-gt0 w ↦ rw w.list-is (record {
        each = λ apart all h has. is.each apart all h has;
        keeps = λ h was. is.keeps h was;
        has = λ i low some. elim (cases_lt i k) [
          | inl less ↦ is.has i less some
          | inr last ↦
              let e : i ≡ k = omega (arith, low, last) in
              absurd (let none = subst (λ j. 1 ≤ slice_index heaps j) e some in omega (arith, none, w.if-heap-gt0.false))
        ];
      })
    ]

pub returns-clause-has : goal.returns-clause-has
returns-clause-has g c =
    add_has (map g.T.Cell.number c.args.small.now) c.args.heaps.now c.loop-heap.list.items (λ i low some. c.loop-heap.invariant.has i (omega (arith, low, c.loop-heap-test.false)) some)
