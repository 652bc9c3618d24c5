use Rattle.std.proofs.Common.{rules, arith, subst, IsSome}
use Rattle.census_fold.proofs.Gathering.{spelled_valid}
use Rattle.census_fold.proofs.Taking.{IsNoDelta, nothing_read}
use Rattle.census_fold.proofs.unions.take_file.Goals as goal

pub unreachable-requires : goal.unreachable-requires
unreachable-requires c =
    let told : IsNoDelta c.in-Err-Version.field-0 = search rules in
    let none = nothing_read c.texts_are_read.ensures c.args.file.now (λ i. omega (arith, c.type_inv.file i)) c.take.result c.in-Err-Version.field-0 c.in-Err-Version.is told c.take.ensures.version c.take.ensures.refused in
    let has = subst IsSome none c.requires in cc

pub returns-in-Ok-clause-valid : goal.returns-in-Ok-clause-valid
returns-in-Ok-clause-valid c = spelled_valid c.texts_are_read.ensures c.args.file.now (λ i. let byte = c.type_inv.file i in omega (arith, byte))
