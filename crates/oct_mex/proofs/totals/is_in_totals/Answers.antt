use Rattle.std.proofs.Common.{ℕ, ◌-◌, arith, length, map, inl, inr, slice_index, IsTrue, ap, refl, subst, sym, ◌∙◌}
use Rattle.std.proofs.lemmas.Bool.{false≢true}
use Rattle.std.proofs.lemmas.List.Elements.{All-same}
use Rattle.std.proofs.lemmas.Bool.{cases_eq}
use Rattle.oct_code.specs.Code.{allows}
use Rattle.oct_mex.specs.Totals.{IsLong, IsSum, IsTable}
use Rattle.oct_mex.proofs.Tables.{allowed_of, option_of, sum_of}
use Rattle.oct_mex.proofs.totals.is_in_totals.Goals.{then-allows+else-is_in_total, else-allows}
use Rattle.oct_mex.proofs.totals.is_in_totals.Goals as goal

pub loop-removed-init : goal.loop-removed-init
loop-removed-init g c = record {
  count = refl;
  long = c.requires.long;
  kept = c.requires.kept;
  none = λ r o some less. omega arith;
}

pub is_in_total-requires : goal.is_in_total-requires
is_in_total-requires g c =
    let kept = c.loop-removed.invariant in
    record {
      held = omega arith;
      some = omega (arith, kept.count, c.requires.some);
      same = c.requires.same;
      listed = c.requires.listed;
      table = c.requires.table;
      inside = c.requires.inside;
      long = kept.long;
      kept = kept.kept;
    }

pub returns-then-is_in_total : goal.returns-then-is_in_total
returns-then-is_in_total g c =
    let all = map g.T.Cell.number c.args.values.now in
    let more = c.is_in_total.ensures in
    record {
      count = more.count ∙ c.loop-removed.invariant.count;
      long = more.long;
      kept = more.kept;
      found = λ t. option_of c.args.code.now all (length c.args.values.now) c.loop-removed.removed (g.N.Cell.number c.args.value) (omega arith) (omega arith) (sym c.if-allows.ensures) (more.is.0 c.if-is_in_total.true);
      none = λ e r o some. false≢true (sym e);
    }

pub loop-removed-preserved : goal.loop-removed-preserved
loop-removed-preserved g c =
    let code = c.args.code.now in
    let all = map g.T.Cell.number c.args.values.now in
    let n = length c.args.values.now in
    let v = g.N.Cell.number c.args.value in
    let mask = c.args.mask in
    let r = c.loop-removed.removed in
    let kept = c.loop-removed.invariant in
    elim c.if-allows.branch [
      | then-allows+else-is_in_total w ↦
          let more = w.is_in_total.ensures in
          record {
            count = ap length w.tables-is ∙ more.count ∙ kept.count;
            long = All-same (IsLong c.args.size) c.if-allows.tables w.is_in_total.new.tables w.tables-is more.long;
            kept = All-same (IsTable mask all) c.if-allows.tables w.is_in_total.new.tables w.tables-is more.kept;
            none = λ s o some less. elim (cases_eq s r) [
              | inl e ↦ false≢true (sym w.if-is_in_total.false ∙ more.is.1 (subst (λ (k : ℕ). IsSum all (n - k) v) e (sum_of code all n s v o some)))
              | inr ne ↦ kept.none s o some (omega arith)
            ];
          }
      | else-allows w ↦ record {
        count = ap length w.tables-is ∙ kept.count;
        long = All-same (IsLong c.args.size) c.if-allows.tables c.loop-removed.tables w.tables-is kept.long;
        kept = All-same (IsTable mask all) c.if-allows.tables c.loop-removed.tables w.tables-is kept.kept;
        none = λ s o some less. elim (cases_eq s r) [
          | inl e ↦ false≢true (w.if-allows.ensures ∙ subst (λ (k : ℕ). IsTrue (allows code k 2)) e (allowed_of code (slice_index all) n s v o some))
          | inr ne ↦ kept.none s o some (omega arith)
        ];
      }
    ]

pub returns : goal.returns
returns g c =
    let kept = c.loop-removed.invariant in
    record {
      count = kept.count;
      long = kept.long;
      kept = kept.kept;
      found = λ t. absurd (false≢true t);
      none = λ e r o some. kept.none r o some (omega (arith, o.parts.few, o.parts.total, c.len.ensures.value, c.min-removed-end.ensures));
    }
