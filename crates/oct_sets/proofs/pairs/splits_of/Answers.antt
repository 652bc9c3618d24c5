use Rattle.std.proofs.Common.{◌+◌, ◌<◌, ◌≤◌, ◌↔◌, IsTrue, sym, subst, ◌∙◌, arith}
use Rattle.std.proofs.lemmas.Bool.{false≢true}
use Rattle.std.specs.List.{Contains}
use Rattle.oct_code.specs.Code.{allows, len}
use Rattle.oct_sets.proofs.Growing.{each_push}
use Rattle.oct_sets.proofs.Words.{splits_all, splits_more, splits_skip}
use Rattle.oct_sets.proofs.pairs.splits_of.Goals.{then-allows+in_ok-push, else-allows}
use Rattle.oct_sets.proofs.pairs.splits_of.Goals as goal

pub loop-removed-preserved : goal.loop-removed-preserved
loop-removed-preserved g c =
    let code = c.args.code.now in
    let r = c.loop-removed.removed in
    let old = c.loop-removed.splits.items in
    let is = c.loop-removed.invariant in
    elim c.if-allows.branch [
      | then-allows+in_ok-push w ↦ rw w.splits-is (record {
        few = each_push old w.push.new.self.items r (λ k. k ≤ len code) w.in_ok-push.ensures.items is.few (omega (arith, c.loop-removed-test.true));
        splits = λ x. subst (λ xs. Contains xs x ↔ ((x < r + 1) × IsTrue (allows code x 2))) (sym w.in_ok-push.ensures.items) (splits_more code r old (sym c.allows.ensures ∙ w.if-allows.true) is.splits x);
      })
      | else-allows w ↦ rw w.splits-is (record {
        few = is.few;
        splits = splits_skip code r old (λ allowed. false≢true (sym w.if-allows.false ∙ c.allows.ensures ∙ allowed)) is.splits;
      })
    ]

pub returns-clause-splits : goal.returns-clause-splits
returns-clause-splits g c = splits_all c.args.code.now c.loop-removed.removed c.loop-removed.splits.items (omega arith) c.loop-removed.invariant.splits
