use Rattle.std.proofs.Common.{ap, arith, subst, sym, ◌∙◌}
use Rattle.oct_search.specs.BySets.{AreSetsOf}
use Rattle.oct_search.proofs.by_sets.BySets.push_settled.Goals as goal

pub go_on-requires-clause-row : goal.go_on-requires-clause-row
go_on-requires-clause-row g c =
    c.push_unlisted.ensures.row c.args.code.now c.loop-self.invariant.row c.in-Some.ensures.value c.in-Some.ensures.within (λ _. c.in-Some.ensures.common)

pub loop-self-preserved : goal.loop-self-preserved
loop-self-preserved g c =
    let kept = c.loop-self.invariant in
    let longer = c.push_unlisted.ensures.len in
    record {
      row = c.push_unlisted.ensures.row c.args.code.now kept.row c.in-Some.ensures.value c.in-Some.ensures.within (λ _. c.in-Some.ensures.common);
      right = subst (λ n. AreSetsOf c.args.code.now n c.go_on.new.self) (omega (arith, c.len-in-loop-self.ensures, longer)) c.go_on.ensures.right;
      wide = omega (arith, c.push_unlisted.ensures.used, c.go_on.ensures.wide, kept.wide);
      same = ap (λ rare. rare.mask) c.push_unlisted.ensures.rare ∙ kept.same ∙ sym c.go_on.ensures.mask;
      room = c.push_unlisted.ensures.room ∙ kept.room;
      more = omega (arith, longer, kept.more);
      most = omega (arith, longer, kept.most);
    }
