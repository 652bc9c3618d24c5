use Rattle.std.proofs.Common.{[], length, refl, ap, subst, arith}
use Rattle.oct_record.specs.Valid.{AreValid}
use Rattle.oct_answer.proofs.Leaving.{as_listed, part_from, no_part}
use Rattle.oct_answer.proofs.snapshot.Snapshot.from.Goals as goal

pub returns-in-Some-clause-value : goal.returns-in-Some-clause-value
returns-in-Some-clause-value g c =
    part_from c.args.self.now c.self.inside.ops.items _ c.in-Some.rest.now c.args.at c.self.invariant.rising c.self.view_is c.deref.ensures.value c.in-Some.ensures.lookup.0.2

pub returns-in-Some-clause-few : goal.returns-in-Some-clause-few
returns-in-Some-clause-few g c =
    let e = ap length (as_listed c.args.self.now c.self.inside.ops.items c.self.invariant.rising c.self.view_is) in
    omega (arith, e, c.self.inside.ops.ok)

pub returns-in-None-clause-value : goal.returns-in-None-clause-value
returns-in-None-clause-value g c =
    no_part c.args.self.now c.self.inside.ops.items c.deref.result.now [] c.args.at c.self.invariant.rising c.self.view_is c.deref.ensures.value (omega (arith, c.in-None.ensures.lookup.0)) refl

pub returns-in-None-clause-few : goal.returns-in-None-clause-few
returns-in-None-clause-few g c =
    let e = ap length (as_listed c.args.self.now c.self.inside.ops.items c.self.invariant.rising c.self.view_is) in
    omega (arith, e, c.self.inside.ops.ok)

pub returns-in-Some-clause-valid : goal.returns-in-Some-clause-valid
returns-in-Some-clause-valid g c = subst AreValid c.self.view_is c.self.invariant.valid

pub returns-in-None-clause-valid : goal.returns-in-None-clause-valid
returns-in-None-clause-valid g c = subst AreValid c.self.view_is c.self.invariant.valid
