use Rattle.std.proofs.Common.{sym, ap, ◌++◌, ◌∙◌, refl}
use Rattle.std.specs.List.{flat_map}
use Rattle.std.proofs.lemmas.List.{take_all}
use Rattle.std.proofs.lemmas.List.Folds.{flat_map-map}
use Rattle.oct_ops.proofs.Growing.{grown_each}
use Rattle.oct_tables.specs.Tables.{column}
use Rattle.oct_tables.proofs.tables.append_columns.Goals as goal

pub loop-name-preserved : goal.loop-name-preserved
loop-name-preserved g c =
    grown_each (λ name. column name.now) c.args.columns.now c.loop-name.name-index _ _ c.args.out.now.items c.loop-name.out.items c.append_column.new.out.items
    c.loop-name-test.true refl c.loop-name.invariant c.in_ok-append_column.ensures.ok

pub returns-clause-ok : goal.returns-clause-ok
returns-clause-ok g c =
    c.loop-name.invariant ∙ ap (λ names. c.args.out.now.items ++ flat_map (λ name. column name.now) names) (take_all c.loop-name.name-index c.args.columns.now c.loop-name-test.false)
    ∙ ap (λ t. c.args.out.now.items ++ t) (sym (flat_map-map column (λ name. name.now) c.args.columns.now))
