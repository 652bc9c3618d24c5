use Rattle.std.proofs.Common.{rules, arith, ap, sym, ◌∙◌}
use Rattle.std.proofs.lemmas.Grind.{common_steps}
use Rattle.std.specs.Prelude.{is_some}
use Rattle.oct_ops.specs.Operations.{listed}
use Rattle.oct_delta.specs.Taken.{operations_of}
use Rattle.census_fold.proofs.Taking.{IsNoDelta, none_of, nothing_read, unchanged}
use Rattle.census_fold.proofs.taken.take_bytes.Goals as goal

pub returns-in-Err-Version : goal.returns-in-Err-Version
returns-in-Err-Version g c =
    let told : IsNoDelta c.in-Err-Version.field-0 = search rules in
    let none = nothing_read c.texts_are_read.ensures c.args.bytes.now (λ i. omega (arith, c.type_inv.bytes i)) c.take.result c.in-Err-Version.field-0 c.in-Err-Version.is told c.take.ensures.version c.take.ensures.refused in
    record {
      taken =
          unchanged c.args.held.now c.take.new.self (listed (operations_of c.args.bytes.now)) c.in-Err-Version.field-0 told c.in-Err-Version.ensures.err
          ∙ none_of c.args.held.now c.args.bytes.now none;
      spelled = ap is_some (sym none);
      kind = search rules;
    }

pub returns-in-Ok-clause-taken : goal.returns-in-Ok-clause-taken
returns-in-Ok-clause-taken g c = grind (arith, common_steps)

pub returns-in-Ok-clause-spelled : goal.returns-in-Ok-clause-spelled
returns-in-Ok-clause-spelled g c = grind (arith, common_steps)
