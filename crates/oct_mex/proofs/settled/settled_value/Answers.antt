use Rattle.std.proofs.Common.{◌≡◌, ◌+◌, List, Bool, map, length, replicate, slice_index, false, subst, subst₂, ◌∙◌, arith, min, ℕ}
use Rattle.oct_code.specs.Code.{len}
use Rattle.oct_mex.specs.Marks.{AddsMarks, IsBelow, IsRareBy}
use Rattle.oct_mex.specs.Windows.{Settles}
use Rattle.oct_mex.proofs.Settling.{reached_first, reached_round, settles}
use Rattle.oct_mex.proofs.settled.settled_value.Goals as goal

pub loop-end-init : goal.loop-end-init
loop-end-init g c =
    let code = c.args.code.now in
    let of = slice_index (map g.T.Cell.number c.args.values.now) in
    let n = length c.args.values.now in
    let rare = c.args.rare.now in
    let first = c.first_unmarked-least.ensures in
    let marks = c.mark_listed_options.new.marks in
    let blank : c.fill.new.self ≡ replicate (length c.args.marks.now) false = c.fill.ensures.after (λ y e. e) in
    let adds : AddsMarks (replicate (length c.args.marks.now) false) marks (IsBelow (IsRareBy code of n rare.heaps.items) (min (len code) n + 1)) =
    subst₂ (λ (x : List Bool) (heaps : List ℕ). AddsMarks x marks (IsBelow (IsRareBy code of n heaps) (min (len code) n + 1))) blank c.deref.ensures.value c.mark_listed_options.ensures in
    record {
      some = omega arith;
      size = c.mark_listed_options.ensures.size ∙ c.fill.ensures.len;
      has = reached_first code of n rare.heaps.items c.args.reach (length c.args.marks.now) marks adds;
      within = first.within;
      marked = first.marked;
      unmarked = first.unmarked;
    }

pub loop-end-preserved : goal.loop-end-preserved
loop-end-preserved g c =
    let code = c.args.code.now in
    let of = slice_index (map g.T.Cell.number c.args.values.now) in
    let n = length c.args.values.now in
    let kept = c.loop-end.invariant in
    let first = c.first_unmarked-least-in-loop-end.ensures in
    record {
      some = omega (arith, c.min-next.ensures);
      size = c.mark_pair_options.ensures.size ∙ kept.size;
      has = reached_round code of n c.args.rare.now.heaps.items c.args.reach c.loop-end.end c.min-next.result c.loop-end.marks c.mark_pair_options.new.marks (omega (arith, c.min-next.ensures)) kept.has c.mark_pair_options.ensures;
      within = first.within;
      marked = first.marked;
      unmarked = first.unmarked;
    }

pub returns-else-is_rare-2-clause-settles : goal.returns-else-is_rare-2-clause-settles
returns-else-is_rare-2-clause-settles g c =
    let code = c.args.code.now in
    let of = slice_index (map g.T.Cell.number c.args.values.now) in
    let n = length c.args.values.now in
    let heaps = c.args.rare.now.heaps.items in
    let kept = c.loop-end.invariant in
    subst (λ size. Settles code of n heaps c.args.reach size c.loop-end.least) kept.size
    (settles code of n heaps c.args.reach c.loop-end.least c.loop-end.marks kept.has kept.within kept.marked kept.unmarked)
