use Rattle.std.proofs.Common.{Bool, List, ℕ, ◌≡◌, ◌<◌, ◌+◌, ◌*◌, ◌/◌, ap, false, min, replicate, refl, inl, inr, map, length, slice_index, sym, ◌∙◌, subst, subst₂, arith}
use Rattle.std.proofs.lemmas.Bool.{cases_eq, cases_lt, false≢true}
use Rattle.oct_code.specs.Code.{len}
use Rattle.oct_mex.specs.Marks.{AddsMarks, IsBelow, IsMarked, IsRareBy, IsTableFor}
use Rattle.oct_mex.specs.Marked.{HasMarked, IsLatePair}
use Rattle.oct_mex.proofs.Cells.{as_many, same_len}
use Rattle.oct_mex.proofs.Marked.{marked_first, marked_mex, marked_round, marked_value, option_value, settled_listed}
use Rattle.oct_mex.proofs.next.next_by_marks.Goals.{in-Some+else-not-has_pair, in_default}
use Rattle.oct_mex.proofs.next.next_by_marks.Goals as goal

-- what was marked stays marked
pub first_unmarked-least-requires-in-loop-end-clause-marked : goal.first_unmarked-least-requires-in-loop-end-clause-marked
first_unmarked-least-requires-in-loop-end-clause-marked g c = λ v low.
    let kept = c.loop-end.invariant in
    elim c.match-cell_sought.branch [
      | in-Some+else-not-has_pair w ↦ rw w.marks-is ((w.mark.ensures.marked v (omega arith)).1 (inl (kept.marked v low)))
      | in_default w ↦ rw w.marks-is ((w.mark_pair_options.ensures.marked v (omega arith)).1 (inl (kept.marked v low)))
    ]

pub loop-end-preserved : goal.loop-end-preserved
loop-end-preserved g c =
    let code = c.args.code.now in
    let of = slice_index (map g.T.Cell.number c.args.values.now) in
    let n = length c.args.values.now in
    let heaps = c.args.heaps.now in
    let end = c.loop-end.end in
    let kept = c.loop-end.invariant in
    let first = c.first_unmarked-least-in-loop-end.ensures in
    record {
      some = elim c.match-cell_sought.branch [ in-Some+else-not-has_pair w ↦ omega (arith, w.end-is) | in_default w ↦ omega (arith, w.end-is) ];
      size = elim c.match-cell_sought.branch [
        | in-Some+else-not-has_pair w ↦ rw w.marks-is (w.mark.ensures.size ∙ kept.size)
        | in_default w ↦ rw w.marks-is (w.mark_pair_options.ensures.size ∙ kept.size)
      ];
      has = elim c.match-cell_sought.branch [
        | in-Some+else-not-has_pair w ↦
            let many = same_len g.N.Cell.number g.T.Cell.number c.args.compared.now c.args.values.now c.requires.same in
            let met = subst₂ (λ (xs : List ℕ) (k : ℕ). IsLatePair code (slice_index xs) k end (g.N.Cell.number w.in-Some.value)) c.requires.same many (w.has_pair.ensures.0 w.if-not-has_pair.false) in
            let pair = subst (IsLatePair code of n end) w.in-Some.ensures met in
            subst₂ (HasMarked code of n heaps) (sym w.end-is) (sym w.marks-is)
            (marked_value code of n heaps end c.loop-end.least c.loop-end.marks w.mark.new.marks kept.has (option_value code of n pair.removed c.loop-end.least pair.option) w.mark.ensures)
        | in_default w ↦ subst₂ (HasMarked code of n heaps) (sym w.end-is) (sym w.marks-is)
            (marked_round code of n heaps end (end + end / 4 + 32) c.loop-end.marks w.mark_pair_options.new.marks kept.has w.mark_pair_options.ensures)
      ];
      within = first.within;
      marked = first.marked;
      unmarked = first.unmarked;
    }

pub loop-end-smaller : goal.loop-end-smaller
loop-end-smaller g c =
    let kept = c.loop-end.invariant in
    let first = c.first_unmarked-least-in-loop-end.ensures in
    let n = length c.args.values.now in
    let inside : c.loop-end.least < length c.loop-end.marks = omega arith in
    elim c.match-cell_sought.branch [
      | in-Some+else-not-has_pair w ↦
          let marked : IsMarked c.match-cell_sought.marks c.loop-end.least = rw w.marks-is ((w.mark.ensures.marked c.loop-end.least inside).1 (inr refl)) in
          let size : length c.match-cell_sought.marks ≡ length c.loop-end.marks = ap length w.marks-is ∙ w.mark.ensures.size in
          elim (cases_eq c.first_unmarked-least-in-loop-end.result c.loop-end.least) [
            | inl e ↦ absurd (first.unmarked (omega (arith, e, size, inside)) (subst (IsMarked c.match-cell_sought.marks) (sym e) marked))
            | inr ne ↦ omega (arith, size, w.end-is, first.behind, first.within, inside, ne)
          ]
      | in_default w ↦
          let size : length c.match-cell_sought.marks ≡ length c.loop-end.marks = ap length w.marks-is ∙ w.mark_pair_options.ensures.size in
          omega (arith, size, w.end-is, first.behind, first.within, inside, kept.some, c.loop-end-test.true)
    ]

-- no pair that is left has the value
pub returns-then-not-has_pair-clause-value : goal.returns-then-not-has_pair-clause-value
returns-then-not-has_pair-clause-value g c =
    let kept = c.loop-end.invariant in
    let all = map g.T.Cell.number c.args.values.now in
    marked_mex c.args.code.now all c.args.heaps.now (length c.args.values.now) c.loop-end.end c.loop-end.least c.loop-end.marks (as_many g.T.Cell.number c.args.values.now)
    (subst (IsTableFor all) (sym kept.size) c.requires.table) kept.has kept.within kept.marked kept.unmarked
    (λ inside r o first. elim (cases_lt o.a c.loop-end.end) [
      | inl early ↦ inr early
      | inr late ↦
          let many = same_len g.N.Cell.number g.T.Cell.number c.args.compared.now c.args.values.now c.requires.same in
          let pair = subst (IsLatePair c.args.code.now (slice_index all) (length c.args.values.now) c.loop-end.end) (sym c.in-Some.ensures) (record { removed = r; option = o; late = late }) in
          absurd (false≢true (sym c.if-not-has_pair.true ∙ c.has_pair.ensures.1
          (subst₂ (λ (xs : List ℕ) (k : ℕ). IsLatePair c.args.code.now (slice_index xs) k c.loop-end.end (g.N.Cell.number c.in-Some.value)) (sym c.requires.same) (sym many) pair)))
    ])

-- the value is common
pub returns-else-not-is_settled-clause-value : goal.returns-else-not-is_settled-clause-value
returns-else-not-is_settled-clause-value g c =
    let kept = c.loop-end.invariant in
    let all = map g.T.Cell.number c.args.values.now in
    let n = length c.args.values.now in
    let settled = c.is_settled.ensures.0 c.if-not-is_settled.false in
    marked_mex c.args.code.now all c.args.heaps.now n c.loop-end.end c.loop-end.least c.loop-end.marks (as_many g.T.Cell.number c.args.values.now)
    (subst (IsTableFor all) (sym kept.size) c.requires.table) kept.has kept.within kept.marked kept.unmarked
    (λ inside r o first. inl (settled_listed c.args.code.now all n c.args.mask c.args.heaps.now c.loop-end.least r c.requires.fit c.requires.listed.rare settled.0 settled.1 o first))

-- no option has a value beyond the table
pub returns-else-least-marks-clause-value : goal.returns-else-least-marks-clause-value
returns-else-least-marks-clause-value g c =
    let kept = c.loop-end.invariant in
    let all = map g.T.Cell.number c.args.values.now in
    marked_mex c.args.code.now all c.args.heaps.now (length c.args.values.now) c.loop-end.end c.loop-end.least c.loop-end.marks (as_many g.T.Cell.number c.args.values.now)
    (subst (IsTableFor all) (sym kept.size) c.requires.table) kept.has kept.within kept.marked kept.unmarked (λ inside. absurd (omega arith))

-- all pairs are marked
pub returns-after-loop-end-clause-value : goal.returns-after-loop-end-clause-value
returns-after-loop-end-clause-value g c =
    let kept = c.loop-end.invariant in
    let all = map g.T.Cell.number c.args.values.now in
    marked_mex c.args.code.now all c.args.heaps.now (length c.args.values.now) c.loop-end.end c.loop-end.least c.loop-end.marks (as_many g.T.Cell.number c.args.values.now)
    (subst (IsTableFor all) (sym kept.size) c.requires.table) kept.has kept.within kept.marked kept.unmarked
    (λ inside r o first. inr (omega (arith, o.parts.ordered, o.parts.total)))

-- only the options of at most one heap and of listed heaps are marked
pub loop-end-init : goal.loop-end-init
loop-end-init g c =
    let code = c.args.code.now in
    let of = slice_index (map g.T.Cell.number c.args.values.now) in
    let n = length c.args.values.now in
    let heaps = c.args.heaps.now in
    let first = c.first_unmarked-least.ensures in
    let size : length c.mark_listed_options.new.marks ≡ length c.args.marks.now = c.mark_listed_options.ensures.size ∙ c.fill.ensures.len in
    let blank : c.fill.new.self ≡ replicate (length c.args.marks.now) false = c.fill.ensures.after (λ y e. e) in
    let listed = subst (λ (x : List Bool). AddsMarks x c.mark_listed_options.new.marks (IsBelow (IsRareBy code of n heaps) (min (len code) n + 1))) blank c.mark_listed_options.ensures in
    record {
      some = omega arith;
      size = size;
      has = marked_first code of n heaps (length c.args.marks.now) c.mark_listed_options.new.marks listed;
      within = first.within;
      marked = first.marked;
      unmarked = first.unmarked;
    }
