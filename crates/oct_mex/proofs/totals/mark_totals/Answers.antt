use Rattle.std.proofs.Common.{◌≡◌, ℕ, ◌+◌, arith, length, map, min, ap, refl, subst, sym, ◌∙◌}
use Rattle.std.proofs.lemmas.Bool.{false≢true}
use Rattle.std.proofs.lemmas.List.Elements.{All-same}
use Rattle.std.specs.List.{All}
use Rattle.oct_code.specs.Code.{len}
use Rattle.oct_mex.specs.Marks.{IsTableFor}
use Rattle.oct_mex.specs.Totals.{AddsTotals, IsLong, IsTable}
use Rattle.oct_mex.proofs.Tables.{adds_none, adds_skipped, adds_total}
use Rattle.oct_mex.proofs.totals.mark_totals.Goals.{then-allows, else-allows}
use Rattle.oct_mex.proofs.totals.mark_totals.Goals as goal

pub loop-removed-init : goal.loop-removed-init
loop-removed-init g c = record {
  count = refl;
  long = c.requires.long;
  kept = c.requires.kept;
  marked = adds_none c.args.code.now (map g.T.Cell.number c.args.values.now) (length c.args.values.now) c.args.mask c.args.end c.args.marks.now;
}

pub mark_total-requires : goal.mark_total-requires
mark_total-requires g c =
    let all = map g.T.Cell.number c.args.values.now in
    let kept = c.loop-removed.invariant in
    record {
      held = omega arith;
      some = omega (arith, kept.count, c.requires.some);
      listed = c.requires.listed;
      table = subst (IsTableFor all) (sym kept.marked.size) c.requires.table;
      long = subst (λ (k : ℕ). All (IsLong k) c.loop-removed.tables) (sym kept.marked.size) kept.long;
      kept = kept.kept;
    }

pub loop-removed-preserved : goal.loop-removed-preserved
loop-removed-preserved g c =
    let code = c.args.code.now in
    let all = map g.T.Cell.number c.args.values.now in
    let n = length c.args.values.now in
    let mask = c.args.mask in
    let end = c.args.end in
    let r = c.loop-removed.removed in
    let kept = c.loop-removed.invariant in
    let size = length c.args.marks.now in
    elim c.if-allows.branch [
      | then-allows w ↦
          let more = w.mark_total.ensures in
          let sums = more.marked in
          record {
            count = ap length w.tables-is ∙ more.count ∙ kept.count;
            long = All-same (IsLong size) c.if-allows.tables w.mark_total.new.tables w.tables-is (subst (λ (k : ℕ). All (IsLong k) w.mark_total.new.tables) kept.marked.size more.long);
            kept = All-same (IsTable mask all) c.if-allows.tables w.mark_total.new.tables w.tables-is more.kept;
            marked = rw w.marks-is (adds_total code all n mask end sums.far r c.args.marks.now c.loop-removed.marks w.mark_total.new.marks sums.marks sums.misses
                (omega arith) (omega arith) (sym w.if-allows.ensures) sums.wide (sums.long ∙ kept.marked.size) kept.marked sums.knows sums.adds);
          }
      | else-allows w ↦ record {
        count = ap length w.tables-is ∙ kept.count;
        long = All-same (IsLong size) c.if-allows.tables c.loop-removed.tables w.tables-is kept.long;
        kept = All-same (IsTable mask all) c.if-allows.tables c.loop-removed.tables w.tables-is kept.kept;
        marked = rw w.marks-is (adds_skipped code all n mask end r c.args.marks.now c.loop-removed.marks (λ t. false≢true (w.if-allows.ensures ∙ t)) kept.marked);
      }
    ]

pub returns-clause-marked : goal.returns-clause-marked
returns-clause-marked g c =
    let all = map g.T.Cell.number c.args.values.now in
    let n = length c.args.values.now in
    let last : c.loop-removed.removed ≡ min (len c.args.code.now) n + 1 = omega (arith, c.len.ensures.value, c.min-removed-end.ensures) in
    subst (λ (k : ℕ). AddsTotals c.args.code.now all n c.args.mask c.args.end k c.args.marks.now c.loop-removed.marks) last c.loop-removed.invariant.marked
