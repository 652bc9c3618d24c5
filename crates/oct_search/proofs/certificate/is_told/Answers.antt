use Rattle.std.proofs.Common.{IfSome, Option, arith, subst}
use Rattle.oct_mex.specs.Windows.{IsSettled}
use Rattle.oct_search.specs.BySets.{ServeFor}
use Rattle.oct_sets.specs.Sets.{reach_of}
use Rattle.oct_search.proofs.BySets.{settled_within}
use Rattle.oct_search.proofs.certificate.is_told.Goals as goal

pub returns-then-reach : goal.returns-then-reach
returns-then-reach g c told =
    let sets = c.in-Some.sets in
    let serve : ServeFor c.args.code.now c.args.row.now c.args.heap sets = subst (λ (o : Option _). IfSome o (ServeFor c.args.code.now c.args.row.now c.args.heap)) c.in-Some.is c.requires.serve in
    subst (λ mask. IsSettled c.args.code.now mask c.args.reach c.args.heap) serve.mask
    (settled_within c.args.code.now sets.mask (reach_of sets.sets) c.args.reach c.args.heap (omega (arith, c.reach.ensures, c.if-reach.true)) (c.tell.ensures told))
