use Rattle.std.proofs.Common.{length, take, ap, ◌∙◌}
use Rattle.std.specs.Prelude.{min}
use Rattle.std.proofs.lemmas.List.{take_min}
use Rattle.oct_tables.proofs.values_table.front_values.Goals as goal

pub returns-clause-value : goal.returns-clause-value
returns-clause-value c =
    let values = c.args.values.now in
    ap (λ n. take n values) (c.min.ensures ∙ ap (λ n. min n (length values)) c.front_len.ensures) ∙ take_min _ values
