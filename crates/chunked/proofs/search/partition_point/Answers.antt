use Rattle.std.proofs.Common.{rules, ◌-◌, length, sym, ap, ◌∙◌, arith}
use Rattle.std.proofs.lemmas.Fn.{always_returns_same}
use Rattle.chunked.proofs.search.partition_point.Goals as goal

pub returns-in-Some-clause-point : goal.returns-in-Some-clause-point
returns-in-Some-clause-point g c =
    let xs = c.args.items.now in
    let q = g.P.Test.passes c.args.test.now in
    ((λ k d lo hi. c.requires k (length xs - 1) d (omega arith) (omega arith) (ap q (sym (c.in-Some.ensures.item.3.1 d)) ∙ sym c.passes.ensures ∙ c.if-passes.true)), (λ k d lo hi. absurd (omega arith)))

pub returns-in_default-clause-point : goal.returns-in_default-clause-point
returns-in_default-clause-point g c = c.partition_point.ensures.partitioned (g.P.Test.passes c.args.test.now) (always_returns_same _ _ _ (λ a r h called. search rules)) c.requires
