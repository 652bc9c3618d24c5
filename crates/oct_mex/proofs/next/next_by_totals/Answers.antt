use Rattle.std.proofs.Common.{◌≡◌, ◌<◌, ◌≤◌, ◌+◌, ◌*◌, ◌/◌, ℕ, Bool, List, ap, refl, inl, inr, map, length, min, replicate, false, slice_index, sym, ◌∙◌, subst, subst₂, arith}
use Rattle.std.specs.List.{All}
use Rattle.std.proofs.lemmas.Bool.{cases_eq}
use Rattle.std.proofs.lemmas.List.Elements.{All-same}
use Rattle.oct_code.specs.Code.{len}
use Rattle.oct_mex.specs.Marks.{AddsMarks, IsBelow, IsMarked, IsOneHeapBy, IsOptionBy, IsTableFor}
use Rattle.oct_mex.specs.NimValues.{IsOptionValue}
use Rattle.oct_mex.specs.Totals.{HasTotals, IsLong, IsTable}
use Rattle.oct_mex.proofs.Cells.{as_many}
use Rattle.oct_mex.proofs.Tables.{settled_rare, totals_first, totals_mex, totals_round, totals_value}
use Rattle.oct_mex.proofs.next.next_by_totals.Goals.{in-Some+else-not-is_in_totals, in_default}
use Rattle.oct_mex.proofs.next.next_by_totals.Goals as goal

pub loop-end-init : goal.loop-end-init
loop-end-init g c =
    let code = c.args.code.now in
    let all = map g.T.Cell.number c.args.values.now in
    let of = slice_index all in
    let n = length c.args.values.now in
    let mask = c.args.mask in
    let first = c.first_unmarked-least.ensures in
    let size : length c.mark_one_heaps.new.marks ≡ length c.args.marks.now = c.mark_one_heaps.ensures.size ∙ c.fill.ensures.len in
    let blank : c.fill.new.self ≡ replicate (length c.args.marks.now) false = c.fill.ensures.after (λ y e. e) in
    let one : AddsMarks (replicate (length c.args.marks.now) false) c.mark_one_heaps.new.marks (IsBelow (IsOneHeapBy code of n) (min (len code) n + 1)) =
    subst (λ (x : List Bool). AddsMarks x c.mark_one_heaps.new.marks (IsBelow (IsOneHeapBy code of n) (min (len code) n + 1))) blank c.mark_one_heaps.ensures in
    record {
      some = c.likely_end-end.ensures;
      size = c.mark_totals.ensures.marked.size ∙ size;
      has = totals_first code all n mask (length c.args.marks.now) c.likely_end-end.result c.mark_one_heaps.new.marks c.mark_totals.new.marks one c.mark_totals.ensures.marked;
      count = c.mark_totals.ensures.count;
      long = subst (λ (k : ℕ). All (IsLong k) c.mark_totals.new.tables) size c.mark_totals.ensures.long;
      kept = c.mark_totals.ensures.kept;
      within = first.within;
      marked = first.marked;
      unmarked = first.unmarked;
    }

pub mark_totals-requires : goal.mark_totals-requires
mark_totals-requires g c =
    let all = map g.T.Cell.number c.args.values.now in
    let size : length c.mark_one_heaps.new.marks ≡ length c.args.marks.now = c.mark_one_heaps.ensures.size ∙ c.fill.ensures.len in
    record {
      some = c.requires.some;
      listed = c.requires.listed;
      table = subst (IsTableFor all) (sym size) c.requires.table;
      long = subst (λ (k : ℕ). All (IsLong k) c.args.tables.now) (sym size) c.requires.long;
      kept = c.requires.tables;
    }

pub is_in_totals-requires : goal.is_in_totals-requires
is_in_totals-requires g c =
    let all = map g.T.Cell.number c.args.values.now in
    let kept = c.loop-end.invariant in
    record {
      some = omega (arith, kept.count, c.requires.some);
      same = c.requires.same;
      listed = c.requires.listed;
      table = subst (IsTableFor all) (sym kept.size) c.requires.table;
      inside = omega (arith, c.in-Some.ensures, c.if-least-marks.true);
      long = subst (λ (k : ℕ). All (IsLong k) c.loop-end.tables) (sym kept.size) kept.long;
      kept = kept.kept;
    }

pub mark_totals-requires-in_default : goal.mark_totals-requires-in_default
mark_totals-requires-in_default g c =
    let all = map g.T.Cell.number c.args.values.now in
    let kept = c.loop-end.invariant in
    record {
      some = omega (arith, kept.count, c.requires.some);
      listed = c.requires.listed;
      table = subst (IsTableFor all) (sym kept.size) c.requires.table;
      long = subst (λ (k : ℕ). All (IsLong k) c.loop-end.tables) (sym kept.size) kept.long;
      kept = kept.kept;
    }

-- what was marked stays marked
pub first_unmarked-least-requires-in-loop-end-clause-marked : goal.first_unmarked-least-requires-in-loop-end-clause-marked
first_unmarked-least-requires-in-loop-end-clause-marked g c = λ v low.
    let kept = c.loop-end.invariant in
    elim c.match-cell_sought.branch [
      | in-Some+else-not-is_in_totals w ↦ rw w.marks-is ((w.mark.ensures.marked v (omega arith)).1 (inl (kept.marked v low)))
      | in_default w ↦ rw w.marks-is (w.mark_totals-in_default.ensures.marked.kept v (omega arith) (kept.marked v low))
    ]

pub loop-end-preserved : goal.loop-end-preserved
loop-end-preserved g c =
    let code = c.args.code.now in
    let all = map g.T.Cell.number c.args.values.now in
    let of = slice_index all in
    let n = length c.args.values.now in
    let mask = c.args.mask in
    let end = c.loop-end.end in
    let kept = c.loop-end.invariant in
    let first = c.first_unmarked-least-in-loop-end.ensures in
    record {
      some = elim c.match-cell_sought.branch [ in-Some+else-not-is_in_totals w ↦ omega (arith, w.end-is) | in_default w ↦ omega (arith, w.end-is) ];
      size = elim c.match-cell_sought.branch [
        | in-Some+else-not-is_in_totals w ↦ rw w.marks-is (w.mark.ensures.size ∙ kept.size)
        | in_default w ↦ rw w.marks-is (w.mark_totals-in_default.ensures.marked.size ∙ kept.size)
      ];
      has = elim c.match-cell_sought.branch [
        | in-Some+else-not-is_in_totals w ↦
            let option = subst (IsOptionValue code of n) w.in-Some.ensures (w.is_in_totals.ensures.found w.if-not-is_in_totals.false) in
            subst₂ (HasTotals code all n mask) (sym w.end-is) (sym w.marks-is) (totals_value code all n mask end c.loop-end.least c.loop-end.marks w.mark.new.marks kept.has option w.mark.ensures)
        | in_default w ↦ subst₂ (HasTotals code all n mask) (sym w.end-is) (sym w.marks-is)
            (totals_round code all n mask end (end + end / 4 + 32) c.loop-end.marks w.mark_totals-in_default.new.marks kept.has w.mark_totals-in_default.ensures.marked)
      ];
      count = elim c.match-cell_sought.branch [
        | in-Some+else-not-is_in_totals w ↦ ap length w.tables-is ∙ w.is_in_totals.ensures.count ∙ kept.count
        | in_default w ↦ ap length w.tables-is ∙ w.mark_totals-in_default.ensures.count ∙ kept.count
      ];
      long = elim c.match-cell_sought.branch [
        | in-Some+else-not-is_in_totals w ↦ All-same (IsLong (length c.args.marks.now)) c.match-cell_sought.tables w.is_in_totals.new.tables w.tables-is
            (subst (λ (k : ℕ). All (IsLong k) w.is_in_totals.new.tables) kept.size w.is_in_totals.ensures.long)
        | in_default w ↦ All-same (IsLong (length c.args.marks.now)) c.match-cell_sought.tables w.mark_totals-in_default.new.tables w.tables-is
            (subst (λ (k : ℕ). All (IsLong k) w.mark_totals-in_default.new.tables) kept.size w.mark_totals-in_default.ensures.long)
      ];
      kept = elim c.match-cell_sought.branch [
        | in-Some+else-not-is_in_totals w ↦ All-same (IsTable mask all) c.match-cell_sought.tables w.is_in_totals.new.tables w.tables-is w.is_in_totals.ensures.kept
        | in_default w ↦ All-same (IsTable mask all) c.match-cell_sought.tables w.mark_totals-in_default.new.tables w.tables-is w.mark_totals-in_default.ensures.kept
      ];
      within = first.within;
      marked = first.marked;
      unmarked = first.unmarked;
    }

pub loop-end-smaller : goal.loop-end-smaller
loop-end-smaller g c =
    let kept = c.loop-end.invariant in
    let first = c.first_unmarked-least-in-loop-end.ensures in
    let n = length c.args.values.now in
    let inside : c.loop-end.least < length c.loop-end.marks = omega arith in
    elim c.match-cell_sought.branch [
      | in-Some+else-not-is_in_totals w ↦
          let marked : IsMarked c.match-cell_sought.marks c.loop-end.least = rw w.marks-is ((w.mark.ensures.marked c.loop-end.least inside).1 (inr refl)) in
          let size : length c.match-cell_sought.marks ≡ length c.loop-end.marks = ap length w.marks-is ∙ w.mark.ensures.size in
          elim (cases_eq c.first_unmarked-least-in-loop-end.result c.loop-end.least) [
            | inl e ↦ absurd (first.unmarked (omega (arith, e, size, inside)) (subst (IsMarked c.match-cell_sought.marks) (sym e) marked))
            | inr ne ↦ omega (arith, size, w.end-is, first.behind, first.within, inside, ne)
          ]
      | in_default w ↦
          let size : length c.match-cell_sought.marks ≡ length c.loop-end.marks = ap length w.marks-is ∙ w.mark_totals-in_default.ensures.marked.size in
          omega (arith, size, w.end-is, first.behind, first.within, inside, kept.some, c.loop-end-test.true)
    ]

-- no pair has the value
pub returns-then-not-is_in_totals-clause-value : goal.returns-then-not-is_in_totals-clause-value
returns-then-not-is_in_totals-clause-value g c =
    let code = c.args.code.now in
    let all = map g.T.Cell.number c.args.values.now in
    let of = slice_index all in
    let n = length c.args.values.now in
    let mask = c.args.mask in
    let kept = c.loop-end.invariant in
    let none : (r : ℕ) (o : IsOptionBy code of n r c.loop-end.least) → 1 ≤ o.a → ⊥ =
    subst (λ (v : ℕ). (r : ℕ) (o : IsOptionBy code of n r v) → 1 ≤ o.a → ⊥) c.in-Some.ensures (c.is_in_totals.ensures.none c.if-not-is_in_totals.true) in
    totals_mex code all n mask c.loop-end.end c.loop-end.least c.loop-end.marks (as_many g.T.Cell.number c.args.values.now)
    (subst (IsTableFor all) (sym kept.size) c.requires.table) kept.has kept.within kept.marked kept.unmarked
    (λ inside r o first. absurd (none r o first))

-- the value is common
pub returns-else-not-is_settled-clause-value : goal.returns-else-not-is_settled-clause-value
returns-else-not-is_settled-clause-value g c =
    let code = c.args.code.now in
    let all = map g.T.Cell.number c.args.values.now in
    let of = slice_index all in
    let n = length c.args.values.now in
    let mask = c.args.mask in
    let kept = c.loop-end.invariant in
    let settled = c.is_settled.ensures.0 c.if-not-is_settled.false in
    totals_mex code all n mask c.loop-end.end c.loop-end.least c.loop-end.marks (as_many g.T.Cell.number c.args.values.now)
    (subst (IsTableFor all) (sym kept.size) c.requires.table) kept.has kept.within kept.marked kept.unmarked
    (λ inside r o first. inl (settled_rare code all n mask c.loop-end.least r c.requires.fit settled.0 settled.1 o first))

-- no option has a value beyond the table
pub returns-else-least-marks-clause-value : goal.returns-else-least-marks-clause-value
returns-else-least-marks-clause-value g c =
    let code = c.args.code.now in
    let all = map g.T.Cell.number c.args.values.now in
    let of = slice_index all in
    let n = length c.args.values.now in
    let mask = c.args.mask in
    let kept = c.loop-end.invariant in
    totals_mex code all n mask c.loop-end.end c.loop-end.least c.loop-end.marks (as_many g.T.Cell.number c.args.values.now)
    (subst (IsTableFor all) (sym kept.size) c.requires.table) kept.has kept.within kept.marked kept.unmarked
    (λ inside. absurd (omega arith))

-- all pairs are marked
pub returns-after-loop-end-clause-value : goal.returns-after-loop-end-clause-value
returns-after-loop-end-clause-value g c =
    let code = c.args.code.now in
    let all = map g.T.Cell.number c.args.values.now in
    let of = slice_index all in
    let n = length c.args.values.now in
    let mask = c.args.mask in
    let kept = c.loop-end.invariant in
    totals_mex code all n mask c.loop-end.end c.loop-end.least c.loop-end.marks (as_many g.T.Cell.number c.args.values.now)
    (subst (IsTableFor all) (sym kept.size) c.requires.table) kept.has kept.within kept.marked kept.unmarked
    (λ inside r o first. inr (omega (arith, o.parts.ordered, o.parts.total)))
